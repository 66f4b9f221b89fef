-- Which words spell an instruction, and a list of instructions.
use Rattle.std.specs.Prelude.{◌≡◌, ◌<◌, ◌+◌, ◌*◌, ℕ, List, [], ◌∷◌, ◌++◌, length, Some}
use Rattle.spv_table.specs.declared.table.Entry.{Entry}
use Rattle.spv_table.specs.Table.{Table, entry_of, pattern_of}
use Rattle.spv_module.specs.Operand.{PlainInst, start}
use Rattle.spv_module.specs.Spelling.{Match}

-- The first word of an instruction is 65536 times its number of words, itself included, plus its opcode. [2.3]
abbrev pub first_word : ℕ → List ℕ → ℕ
first_word opcode further = 65536 * (length further + 1) + opcode

-- After the instructions before, the words spell the instruction. [2.3]
pub record IsInstruction (G : Table) (before : List PlainInst) (i : PlainInst) (words : List ℕ) : Type 0 where
  pub further : List ℕ
  pub entry : Entry
  pub opcode : i.opcode < 65536
  pub count : length further + 1 < 65536
  pub spelled : words ≡ first_word i.opcode further ∷ further
  pub known : entry_of G i.opcode ≡ Some entry
  pub matches : Match G (start before i.opcode) (pattern_of entry) i.operands further

-- The words are the joined spellings of the list, each under the context of the instructions before it. [2.3]
pub data Listing (G : Table) : List PlainInst → List PlainInst → List ℕ → Type 0 where
  end : (before : List PlainInst) → Listing G before [] []
  more : (before : List PlainInst) (i : PlainInst) (is : List PlainInst) (ws vs : List ℕ)
      → IsInstruction G before i ws → Listing G (before ++ (i ∷ [])) is vs → Listing G before (i ∷ is) (ws ++ vs)

abbrev pub IsListing : Table → List PlainInst → List ℕ → Type 0
IsListing G is words = Listing G [] is words
