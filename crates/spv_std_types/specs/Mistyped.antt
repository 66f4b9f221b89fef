-- The calls of OpenCL.std that break Y10. [own; the instructions by the OpenCL Extended Instruction Set Specification]
use Rattle.std.specs.Prelude.{◌≡◌, ◌<◌, ℕ, List, ◌∷◌, Option, Some, None, slice_get}
use Rattle.spv_module.specs.Operand.{Plain, OfType, Result, Id, Word, PlainInst}
use Rattle.spv_module.specs.declared.opcode.TheConstants.{EXT_INST}
use Rattle.spv_extended.specs.declared.set.Set.TheVariants.{OpenClStd}
use Rattle.spv_extended.specs.Sets.{set_in}
use Rattle.spv_std_types.specs.declared.condition.Condition.{Condition}
use Rattle.spv_std_types.specs.Condition.{FailsFirst, Holds}
use Rattle.spv_std_types.specs.Table.{conditions_of}

-- A call, by its result type r, its set, its number there and the operands behind that, is one of OpenCL.std, and a is
-- the first condition of the line of that number that does not hold. [3.49.4; own: Y10]
abbrev pub BreaksCall : List PlainInst → ℕ → ℕ → ℕ → List Plain → Condition → Type 0
BreaksCall is r set number os a =
    (set_in is set ≡ OpenClStd) × FailsFirst (Holds is r os) (conditions_of number) a

-- the same of the operands of an OpExtInst, %x = OpExtInst %r %set number .. [3.49.4]
abbrev pub Mistypes : List PlainInst → List Plain → Condition → Type 0
Mistypes is (OfType r ∷ Result x ∷ Id set ∷ Word number ∷ os) a = BreaksCall is r set number os a
Mistypes is _ a = ⊥

-- Instruction n of a module breaks Y10 by the condition a: it calls OpenCL.std, and a is the first condition of its
-- line that does not hold. [own: Y10]
pub record IsMistypedBy (is : List PlainInst) (n : ℕ) (a : Condition) : Type 0 where
  pub inst : PlainInst
  pub there : slice_get is n ≡ Some inst
  pub called : inst.opcode ≡ EXT_INST
  pub mistyped : Mistypes is inst.operands a

-- Instruction n breaks Y10. [own: Y10]
abbrev pub IsMistyped : List PlainInst → ℕ → Type 0
IsMistyped is n = (a : Condition) × IsMistypedBy is n a

-- It is the first such instruction, or there is none. [own: Y10]
abbrev pub IsFirstMistyped : List PlainInst → Option ℕ → Type 0
IsFirstMistyped is None = (n : ℕ) → ¬ (IsMistyped is n)
IsFirstMistyped is (Some n) = IsMistyped is n × ((k : ℕ) → k < n → ¬ (IsMistyped is k))
