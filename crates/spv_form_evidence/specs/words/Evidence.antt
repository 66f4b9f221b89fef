-- What shows that an instruction breaks a rule of I1 to I12. Operands count from 0; words count from word 5 of the
-- module. [2.3]
use Rattle.std.specs.Prelude.{◌≡◌, ◌<◌, ◌+◌, ◌*◌, ℕ, List, [], ◌∷◌, ◌++◌, length, Some}
use Rattle.std.specs.Prelude.{None}
use Rattle.spv_table.specs.declared.table.Entry.{Entry}
use Rattle.spv_table.specs.Table.{Table, entry_of, pattern_of}
use Rattle.spv_module.specs.Operand.{Plain, PlainInst, start, after}
use Rattle.spv_module.specs.Shape.{Slot, shape_of}
use Rattle.spv_module.specs.Instruction.{IsListing, first_word}
use Rattle.spv_module.specs.Refusal.{ShapeRefuses}
use Rattle.spv_module.specs.declared.fault.Rule.{Rule}
use Rattle.spv_module.specs.declared.fault.Rule.TheVariants.{I1, I2, I3, I5}
use Rattle.spv_inst.specs.Flat.{Due, OneOf}
use Rattle.spv_evidence.specs.declared.evidence.Evidence.{Evidence}
use Rattle.spv_evidence.specs.declared.evidence.Evidence.TheVariants as evidence
use Rattle.spv_form_evidence.specs.words.Front.{Reaches}

-- After the instructions before, the evidence shows that the words left of the module begin with an instruction that
-- breaks the rule, at a word counted from its first.
pub data Shows (G : Table) (before : List PlainInst) : List ℕ → Rule → ℕ → Evidence → Type 0 where
  -- its first word tells the opcode, and no words
  no_count : (opcode : ℕ) (us : List ℕ) → opcode < 65536
      → Shows G before (opcode ∷ us) I1 0 (evidence.Opcode opcode)
  -- or more words than are left of the module
  past_end : (count opcode : ℕ) (us : List ℕ) → opcode < 65536 → length us + 1 < count
      → Shows G before ((65536 * count + opcode) ∷ us) I2 0 (evidence.Opcode opcode)
  -- or the opcode has no entry
  no_entry : (opcode : ℕ) (us vs : List ℕ) → opcode < 65536 → entry_of G opcode ≡ None
      → Shows G before (first_word opcode us ∷ (us ++ vs)) I3 0 (evidence.Opcode opcode)
  -- words are left after so many operands, and no kind is due
  left_over : (opcode : ℕ) (us vs : List ℕ) (entry : Entry) (os : List Plain) (front : List ℕ) (x : ℕ)
      (left : List ℕ)
      → opcode < 65536 → entry_of G opcode ≡ Some entry
      → Reaches G (start before opcode) (pattern_of entry) us os front [] (x ∷ left)
      → Shows G before (first_word opcode us ∷ (us ++ vs)) I5 (1 + length front)
      (evidence.Due opcode (length os) None)
  -- after so many operands a kind is due, and what it asks for refuses the words left
  refused : (opcode : ℕ) (us vs : List ℕ) (entry : Entry) (os : List Plain) (front : List ℕ) (s : Slot)
      (ds : List Due) (left : List ℕ) (code : Rule) (n : ℕ) → opcode < 65536 → entry_of G opcode ≡ Some entry
      → Reaches G (start before opcode) (pattern_of entry) us os front (OneOf s ∷ ds) left
      → ShapeRefuses (shape_of G (after (start before opcode) os) s) left code n
      → Shows G before (first_word opcode us ∷ (us ++ vs)) code (1 + (length front + n))
      (evidence.Due opcode (length os) (Some s.kind))

-- The words begin with the spellings of so many instructions, and the evidence shows that the one after them breaks the
-- rule at the word of that number.
pub record IsEvidence (G : Table) (words : List ℕ) (rule : Rule) (inst word : ℕ) (e : Evidence) : Type 0 where
  pub before : List PlainInst
  pub front : List ℕ
  pub left : List ℕ
  pub place : ℕ
  pub all : words ≡ front ++ left
  pub spelled : IsListing G before front
  pub number : length before ≡ inst
  pub at : length front + place ≡ word
  pub shows : Shows G before left rule place e
