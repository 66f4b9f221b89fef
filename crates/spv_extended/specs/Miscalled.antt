-- The calls of extended instructions that OpenCL.std does not have. [own; the instructions by the OpenCL Extended
-- Instruction Set Specification]
use Rattle.std.specs.Prelude.{◌≡◌, ◌<◌, ◌&&◌, ℕ, List, ◌∷◌, length, Option, Some, None, Bool, false, not}
use Rattle.std.specs.Prelude.{IsTrue, nat_eq, slice_get}
use Rattle.spv_module.specs.Operand.{Plain, OfType, Result, Id, Word, PlainInst}
use Rattle.spv_module.specs.declared.opcode.TheConstants.{EXT_INST}
use Rattle.spv_extended.specs.declared.set.Set.{Set}
use Rattle.spv_extended.specs.declared.set.Set.TheVariants.{OpenClStd}
use Rattle.spv_extended.specs.Facts.{signature_of, takes}
use Rattle.spv_extended.specs.Sets.{set_in}

-- are so many operands not what a set's instruction of that number takes? Of OpenCL.std alone it is asked. [own]
abbrev pub misses : Set → ℕ → ℕ → Bool
misses OpenClStd number count = not (takes (signature_of OpenClStd number) count)
misses _ number count = false

-- does an instruction call what OpenCL.std does not have, %x = OpExtInst %t %set number .., where it is told which set
-- each id stands for? [3.49.4; own]
abbrev pub is_miscall : (ℕ → Set) → List Plain → Bool
is_miscall sets (OfType t ∷ Result x ∷ Id set ∷ Word number ∷ os) = misses (sets set) number (length os)
is_miscall sets _ = false

abbrev pub miscalls : (ℕ → Set) → PlainInst → Bool
miscalls sets i = nat_eq i.opcode EXT_INST && is_miscall sets i.operands

-- Instruction n of a module calls what OpenCL.std does not have: the set has no instruction of its number, or one that
-- takes fewer or more operands. [own]
pub record IsMiscalled (is : List PlainInst) (n : ℕ) : Type 0 where
  pub inst : PlainInst
  pub there : slice_get is n ≡ Some inst
  pub missed : IsTrue (miscalls (set_in is) inst)

-- It is the first such instruction, or there is none. [own]
abbrev pub IsFirstMiscalled : List PlainInst → Option ℕ → Type 0
IsFirstMiscalled is None = (n : ℕ) → ¬ (IsMiscalled is n)
IsFirstMiscalled is (Some n) = IsMiscalled is n × ((k : ℕ) → k < n → ¬ (IsMiscalled is k))
