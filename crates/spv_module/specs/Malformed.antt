-- The dead instruction: its code, its number, and its word.
use Rattle.std.specs.Prelude.{◌≡◌, ◌<◌, ◌+◌, ◌*◌, ℕ, suc, List, [], ◌∷◌, ◌++◌, length}
use Rattle.std.specs.Prelude.{Some, None}
use Rattle.spv_table.specs.declared.table.Entry.{Entry}
use Rattle.spv_table.specs.Table.{Table, entry_of, pattern_of}
use Rattle.spv_module.specs.Operand.{PlainInst, start}
use Rattle.spv_module.specs.Instruction.{IsInstruction, first_word}
use Rattle.spv_module.specs.declared.fault.Rule.{Rule}
use Rattle.spv_module.specs.declared.fault.Rule.TheVariants.{I1, I2, I3}
use Rattle.spv_module.specs.Refusal.{Misfit}

-- After the instructions before, the words left of the module begin with an instruction that is malformed, with the
-- code, at a word counted from its first. [2.3]
pub data IsMalformed (G : Table) (before : List PlainInst) : List ℕ → Rule → ℕ → Type 0 where
  -- it has no words
  no_count : (opcode : ℕ) (us : List ℕ) → opcode < 65536 → IsMalformed G before (opcode ∷ us) I1 0
  -- it passes the end of the module
  past_end : (count opcode : ℕ) (us : List ℕ) → opcode < 65536 → length us + 1 < count
      → IsMalformed G before ((65536 * count + opcode) ∷ us) I2 0
  -- its opcode has no entry
  no_entry : (opcode : ℕ) (us vs : List ℕ) → opcode < 65536 → entry_of G opcode ≡ None
      → IsMalformed G before (first_word opcode us ∷ (us ++ vs)) I3 0
  -- its further words do not fit its pattern
  misfit : (opcode : ℕ) (us vs : List ℕ) (entry : Entry) (code : Rule) (n : ℕ) → opcode < 65536
      → entry_of G opcode ≡ Some entry → Misfit G (start before opcode) (pattern_of entry) us code n
      → IsMalformed G before (first_word opcode us ∷ (us ++ vs)) code (1 + n)

-- After the instructions before, some list's joined spellings begin the words, and the instruction after it is
-- malformed: its number and its word, both counted from the first. [2.3]
pub data FailsAt (G : Table) : List PlainInst → List ℕ → Rule → ℕ → ℕ → Type 0 where
  here : (before : List PlainInst) (ws : List ℕ) (code : Rule) (n : ℕ) → IsMalformed G before ws code n
      → FailsAt G before ws code 0 n
  later : (before : List PlainInst) (i : PlainInst) (ws vs : List ℕ) (code : Rule) (k n : ℕ)
      → IsInstruction G before i ws → FailsAt G (before ++ (i ∷ [])) vs code k n
      → FailsAt G before (ws ++ vs) code (suc k) (length ws + n)

-- Of the words from word 5 on, that instruction is malformed, with the code, at the word of that number. [2.3]
abbrev pub IsMalformedAt : Table → List ℕ → Rule → ℕ → ℕ → Type 0
IsMalformedAt G words code k n = FailsAt G [] words code k n
