-- The text of a module: how it is shown, what it is read as. (Own.)
use Rattle.std.specs.Prelude.{◌≡◌, ◌<◌, ◌≤◌, ◌+◌, ◌^◌, ◌++◌, ℕ, List, [], ◌∷◌}
use Rattle.std.specs.Prelude.{nat_eq, if◌then◌else◌, length, codes, decimal, slice_get, unwrap_or}
use Rattle.std.specs.List.{onto_first}
use Rattle.spv_words.specs.declared.words.Header.{Header}
use Rattle.spv_table.specs.Table.{Table}
use Rattle.spv_module.specs.Operand.{PlainInst}
use Rattle.spv_module.specs.Instruction.{first_word}
use Rattle.spv_words.specs.Header.{greatest_length}
use Rattle.spv_inst.specs.Limits.{HeaderFits, greatest_count}
use Rattle.spv_lines.specs.Line.{IsShownLine, IsReadLine}

-- the lines of a module before its instructions [own]
abbrev pub header_lines : Header → List (List ℕ)
header_lines h =
    codes "; SPIR-V" ∷
    codes "; Version: 1.6" ∷
    (codes "; Generator: " ++ decimal h.generator) ∷
    (codes "; Bound: " ++ decimal h.bound) ∷
    codes "; Schema: 0" ∷
    []

-- lines in order, each ended by a line feed [own]
abbrev pub ended : List (List ℕ) → List ℕ
ended [] = []
ended (l ∷ ls) = l ++ (10 ∷ ended ls)

-- the lines of a text: a line feed ends a line, and so does the end of the text, unless a line feed stands before it
-- [own]
abbrev pub lines_of : List ℕ → List (List ℕ)
lines_of [] = []
lines_of (b ∷ t) = if nat_eq b 10 then [] ∷ lines_of t else onto_first b (lines_of t)

-- After the instructions before, the lines are the shown ones of the instructions, in order. [own]
pub data ShownLines (G : Table) : List PlainInst → List PlainInst → List (List ℕ) → Type 0 where
  end : (before : List PlainInst) → ShownLines G before [] []
  more : (before : List PlainInst) (i : PlainInst) (is : List PlainInst) (further line : List ℕ)
      (lines : List (List ℕ))
      → IsShownLine G before i further line → ShownLines G (before ++ (i ∷ [])) is lines
      → ShownLines G before (i ∷ is) (line ∷ lines)

-- the line of an instruction by its number, from 0, among the lines of all; nothing where there is none [own]
abbrev pub inst_line : List (List ℕ) → ℕ → List ℕ
inst_line lines n = unwrap_or (slice_get lines n) []

-- The text is the shown one of the header and the list of instructions. [own]
pub record IsShownText (G : Table) (h : Header) (is : List PlainInst) (t : List ℕ) : Type 0 where
  pub lines : List (List ℕ)
  pub shown : ShownLines G [] is lines
  pub all : t ≡ ended (header_lines h ++ lines)

-- After the instructions before, the lines are read as the instructions, in order, and these have the words. [own]
pub data ReadLines (G : Table) : List PlainInst → List PlainInst → List (List ℕ) → List ℕ → Type 0 where
  end : (before : List PlainInst) → ReadLines G before [] [] []
  more : (before : List PlainInst) (i : PlainInst) (is : List PlainInst) (further line words : List ℕ)
      (lines : List (List ℕ))
      → IsReadLine G before i further line → length further + 1 ≤ greatest_count
      → ReadLines G (before ++ (i ∷ [])) is lines words
      → ReadLines G before (i ∷ is) (line ∷ lines) ((first_word i.opcode further ∷ further) ++ words)

-- The text is read as the header and the list of instructions, whose words are these. [own]
pub record IsReadText (G : Table) (h : Header) (is : List PlainInst) (words t : List ℕ) : Type 0 where
  pub lines : List (List ℕ)
  pub header : HeaderFits h
  pub generator : h.generator < 2 ^ 32
  pub read : ReadLines G [] is lines words
  pub short : 5 + length words ≤ greatest_length
  pub all : lines_of t ≡ header_lines h ++ lines
