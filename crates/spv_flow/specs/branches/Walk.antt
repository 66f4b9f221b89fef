-- Walks through the definition of a function. [2.16; own]
use Rattle.std.specs.Prelude.{◌≡◌, ◌+◌, ◌++◌, ℕ, List, [], ◌∷◌, All, Any}
use Rattle.std.specs.Prelude.{nat_le, ◌&&◌, ◌||◌}
use Rattle.spv_module.specs.declared.opcode.TheConstants as opcode
use Rattle.spv_table.specs.Table.{Table}
use Rattle.spv_module.specs.Operand.{PlainInst}
use Rattle.spv_layout.specs.Place.{IsOfFunction}
use Rattle.spv_ids.specs.Definition.{IsDefinedAt}
use Rattle.spv_flow.specs.branches.Target.{is_opcode, is_branch, IsOp, IsLabelOf, IsTarget}

-- On a walk, instruction m may come right after instruction n: after a terminator the OpLabel of any of its targets,
-- and after any other the following instruction. Terminators are those with targets, OpReturn, OpReturnValue and
-- OpUnreachable (253 to 255). [2.2.5, 3.49.17]
pub data Next (G : Table) (is : List PlainInst) (n : ℕ) : ℕ → Type 0 where
  jumps : (x m : ℕ) → IsTarget G is n x → IsLabelOf is x m → Next G is n m
  follows : ¬ (IsOp is n (λ code. is_branch code || (nat_le opcode.RETURN code && nat_le code opcode.UNREACHABLE)))
      → Next G is n (n + 1)

-- A walk of the function whose OpFunction (54) is f begins there and stays in the function. It ends at instruction n,
-- and `past` are the instructions before, the last of them first. [2.2.5]
pub data IsWalk (G : Table) (is : List PlainInst) (f : ℕ) : List ℕ → ℕ → Type 0 where
  begins : IsOp is f (is_opcode opcode.FUNCTION) → IsWalk G is f [] f
  goes : (past : List ℕ) (n m : ℕ) → IsWalk G is f past n → Next G is n m → IsOfFunction is m f
      → IsWalk G is f (n ∷ past) m

-- The id is the result of one of the instructions. [2.2.5]
abbrev pub IsResultAmong : List PlainInst → List ℕ → ℕ → Type 0
IsResultAmong is past x = Any (λ n. IsDefinedAt is x n) past

-- Of the instructions, the last of them first, the last OpLabel (248) is b, and these are the ones before it. [2.2.5]
pub record IsLastLabel (is : List PlainInst) (past : List ℕ) (b : ℕ) (before : List ℕ) : Type 0 where
  pub later : List ℕ
  pub divided : past ≡ later ++ (b ∷ before)
  pub label : IsOp is b (is_opcode opcode.LABEL)
  pub last : All (λ n. ¬ (IsOp is n (is_opcode opcode.LABEL))) later
