-- What shows that one of O7, O8 and O11 is broken at an instruction. Operands and members count from 0. [2.16.1,
-- 2.18.2, 3.20]
use Rattle.std.specs.Prelude.{◌≡◌, ◌<◌, ◌≤◌, ◌⊎◌, ◌+◌, ℕ, List, ◌∷◌, Some, slice_get}
use Rattle.spv_module.specs.declared.opcode.TheConstants as opcode
use Rattle.spv_module.specs.Operand.{Plain, Result, Id, PlainInst}
use Rattle.spv_conditions.specs.Further.{IsMember}
use Rattle.spv_declarations.specs.Decorated.{HasBuiltIn, IsBuiltIn, IsLeastBy}
use Rattle.spv_declarations.specs.Given.{Gives, HasId, behind_first}
use Rattle.spv_declarations.specs.Table.{StandsOn}
use Rattle.spv_declarations.specs.declared.shown.members.Mixture.{Mixture}
use Rattle.spv_declarations.specs.declared.shown.members.Mixture.TheVariants.{Members, Within}

-- Instruction i names group g, some instruction gives g a decoration, and that may not stand on a target. [3.20]
pub record IsGivenBadly (is : List PlainInst) (i : PlainInst) (g : ℕ) : Type 0 where
  pub target : ℕ
  pub names : HasId (behind_first i.operands) target
  pub place : ℕ
  pub inst : PlainInst
  pub there : slice_get is place ≡ Some inst
  pub decoration : ℕ
  pub gives : Gives decoration inst g
  pub bad : ¬ (StandsOn is decoration target)

-- the target is operand k, and instruction m gives g the decoration [3.20]
pub record IsBadTarget (is : List PlainInst) (i : PlainInst) (g k m : ℕ) : Type 0 where
  pub behind : 0 < k
  pub target : ℕ
  pub names : slice_get i.operands k ≡ Some (Id target)
  pub inst : PlainInst
  pub there : slice_get is m ≡ Some inst
  pub decoration : ℕ
  pub gives : Gives decoration inst g
  pub bad : ¬ (StandsOn is decoration target)

-- n is the least instruction by which an id has one of Restrict (19) and Aliased (20), and m, which is not greater, the
-- least by which it has the other [2.18.2]
abbrev pub IsOtherOf : List PlainInst → ℕ → ℕ → Type 0
IsOtherOf is n m = (m ≤ n) × ((x : ℕ) × ((IsLeastBy is x 19 m × IsLeastBy is x 20 n)
    ⊎ (IsLeastBy is x 20 m × IsLeastBy is x 19 n)))

-- Instruction i is %t = OpTypeStruct .. with these members. [3.49.6]
pub record Declares (i : PlainInst) (t : ℕ) (members : List Plain) : Type 0 where
  pub called : i.opcode ≡ opcode.TYPE_STRUCT
  pub operands : i.operands ≡ Result t ∷ members

-- at %t = OpTypeStruct ..: member j of t, which is operand j + 1, has BuiltIn (11) and member k has not; or operand k,
-- which is a member's type, is a struct with a member that has BuiltIn [2.16.1]
pub data IsHalfBy (is : List PlainInst) (n : ℕ) : Mixture → Type 0 where
  in_part : (i : PlainInst) (t j k : ℕ) (ms : List Plain) → slice_get is n ≡ Some i → Declares i t ms
      → IsBuiltIn is t j → IsMember is t k → ¬ (IsBuiltIn is t k) → IsHalfBy is n (Members (j + 1) (k + 1))
  within : (i : PlainInst) (t u k : ℕ) (ms : List Plain) → slice_get is n ≡ Some i → Declares i t ms
      → slice_get i.operands k ≡ Some (Id u) → HasBuiltIn is u → IsHalfBy is n (Within k)
