-- What shows that an instruction fits no row of the table of shapes that a profile has, or that no module goes on at a
-- place. [2.4; own]
use Rattle.std.specs.Prelude.{◌≡◌, ◌++◌, ◌↔◌, ℕ, List, [], ◌∷◌, Bool, false, IsTrue, Some}
use Rattle.std.specs.Prelude.{length, slice_get, take}
use Rattle.std.specs.List.{Contains}
use Rattle.std.specs.List.Sorted.{IsStrictlyIncreasing}
use Rattle.spv_table.specs.Table.{Table}
use Rattle.spv_module.specs.Operand.{PlainInst}
use Rattle.spv_module.specs.declared.profile.Profile.{Profile}
use Rattle.spv_module.specs.declared.fault.Rule.{Rule}
use Rattle.spv_module.specs.declared.fault.Rule.TheVariants.{P1, L1, L2}
use Rattle.spv_layout.specs.Rows.{row_of}
use Rattle.spv_layout.specs.Profile.{FitsProfile, has_row}
use Rattle.spv_layout.specs.Layout.{IsLayout, BeginsLayout, class_under, seen_classes}
use Rattle.spv_evidence.specs.declared.evidence.Evidence.{Evidence}
use Rattle.spv_evidence.specs.declared.evidence.Evidence.TheVariants.{Shape, MayCome}

-- The profile has a row for the opcode. (Own.)
abbrev pub HasRow : Profile → ℕ → Type 0
HasRow p opcode = IsTrue (has_row p (row_of opcode))

-- Under the profile the opcode has a row, and these instructions and after them one of the opcode begin a module. [2.4]
pub record MayFollow (p : Profile) (before : List PlainInst) (opcode : ℕ) : Type 0 where
  pub row : HasRow p opcode
  pub begins : BeginsLayout (seen_classes p before ++ (class_under p opcode ∷ []))

-- Under the profile these instructions begin a module; the opcodes are those that may follow, in order and each once;
-- and `end` tells whether the module may end there. [2.4]
pub record AreToCome (p : Profile) (before : List PlainInst) (opcodes : List ℕ) (end : Bool) : Type 0 where
  pub begun : BeginsLayout (seen_classes p before)
  pub order : IsStrictlyIncreasing opcodes
  pub each : (opcode : ℕ) → Contains opcodes opcode ↔ MayFollow p before opcode
  pub whole : IsTrue end ↔ IsLayout (seen_classes p before)

-- The evidence shows that under the profile the rule is broken at the instruction of that number.
pub data IsEvidence (p : Profile) (G : Table) (is : List PlainInst) : Rule → ℕ → Evidence → Type 0 where
  -- the opcode of an instruction that fits no row of the profile, and whether it has one there
  misfit : (i : PlainInst) (n : ℕ) (known : Bool) → slice_get is n ≡ Some i → IsTrue known ↔ HasRow p i.opcode
      → ¬ (FitsProfile p G i) → IsEvidence p G is P1 n (Shape i.opcode known)
  -- what may come in the place of an instruction, of which the opcode is none of these
  misplaced : (i : PlainInst) (n : ℕ) (opcodes : List ℕ) (end : Bool) → slice_get is n ≡ Some i
      → AreToCome p (take n is) opcodes end → ¬ (Contains opcodes i.opcode)
      → IsEvidence p G is L1 n (MayCome opcodes end)
  -- what may come after all instructions, where no module may end
  unfinished : (opcodes : List ℕ) → AreToCome p is opcodes false
      → IsEvidence p G is L2 (length is) (MayCome opcodes false)
