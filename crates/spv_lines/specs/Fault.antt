-- Where a line and a text fail, and with which code. (Own.)
use Rattle.std.specs.Prelude.{◌≡◌, ◌<◌, ◌≤◌, ◌+◌, ◌^◌, ◌++◌, ◌⊎◌, ℕ, suc, List, []}
use Rattle.std.specs.Prelude.{◌∷◌, Option, Some, None, Bool, true, false, map, length, slice_get, codes, decimal}
use Rattle.std.specs.List.{list_any}
use Rattle.spv_words.specs.declared.words.Header.{Header}
use Rattle.spv_words.specs.Header.{greatest_bound, greatest_length}
use Rattle.spv_table.specs.declared.table.Entry.{Entry}
use Rattle.spv_table.specs.Table.{Table, Item, One, Maybe, Many, pattern_of}
use Rattle.spv_module.specs.Operand.{PlainInst, Context, start}
use Rattle.spv_module.specs.Shape.{alone, Shape, AsResult, shape_of}
use Rattle.spv_inst.specs.Flat.{due}
use Rattle.spv_inst.specs.Limits.{HeaderFits, greatest_count}
use Rattle.spv_lines.specs.declared.asm_error.AsmCode.{AsmCode}
use Rattle.spv_lines.specs.declared.asm_error.AsmCode.TheVariants.{S1, S2, S3, S4, S5, S6}
use Rattle.spv_lines.specs.Digits.{IsLarge}
use Rattle.spv_lines.specs.Operand.{id_text}
use Rattle.spv_lines.specs.Line.{Parts, parts_of, IsInstName, IsReadLine}
use Rattle.spv_lines.specs.Text.{header_lines, lines_of}
use Rattle.spv_lines.specs.Refusal.{OperandsFail}

-- does an item ask for a result, and does one ask for it always [own]
abbrev pub is_result_shape : Shape → Bool
is_result_shape AsResult = true
is_result_shape _ = false

-- whether a pattern asks for a result [own]
abbrev pub may_have_result : Table → Context → Item → Bool
may_have_result G c (One k) = is_result_shape (shape_of G c (alone k))
may_have_result G c (Maybe k) = is_result_shape (shape_of G c (alone k))
may_have_result G c (Many k) = is_result_shape (shape_of G c (alone k))

-- whether a pattern asks for a result always [own]
abbrev pub must_have_result : Table → Context → Item → Bool
must_have_result G c (One k) = is_result_shape (shape_of G c (alone k))
must_have_result G c _ = false

-- What stands in front of ` = `, or that nothing does, is a result. [own]
pub data IsResult : Option (List ℕ) → Option ℕ → Type 0 where
  none : IsResult None None
  some : (x : ℕ) → x < 4294967296 → IsResult (Some (id_text x)) (Some x)

-- What stands in front of ` = `, or that nothing does, is no result for the pattern. [own]
pub data ResultFails (G : Table) (c : Context) (is : List Item) : Option (List ℕ) → AsmCode → Type 0 where
  missing : list_any (must_have_result G c) is ≡ true → ResultFails G c is None S3
  too_many : (t : List ℕ) → list_any (may_have_result G c) is ≡ false → ResultFails G c is (Some t) S3
  ill_formed : (t : List ℕ) → ((ds : List ℕ) → t ≡ 37 ∷ ds → ¬ (IsLarge 0 ds))
      → ResultFails G c is (Some t) S3
  large : (ds : List ℕ) → list_any (may_have_result G c) is ≡ true → IsLarge (2 ^ 32) ds
      → ResultFails G c is (Some (37 ∷ ds)) S4

-- After the instructions before, which with the header have so many words, a line fails: the name first, then the
-- result, then the operands from left to right, then the length. [own]
pub data LineFails (G : Table) (before : List PlainInst) (written : ℕ) (line : List ℕ) : AsmCode → Type 0 where
  undivided : parts_of line ≡ None → LineFails G before written line S2
  name : (parts : Parts) → parts_of line ≡ Some parts
      → ((opcode : ℕ) (entry : Entry) → ¬ (IsInstName G parts.name opcode entry))
      → LineFails G before written line S2
  result : (parts : Parts) (opcode : ℕ) (entry : Entry) (code : AsmCode) → parts_of line ≡ Some parts
      → IsInstName G parts.name opcode entry
      → ResultFails G (start before opcode) (pattern_of entry) parts.result code
      → LineFails G before written line code
  operands : (parts : Parts) (opcode : ℕ) (entry : Entry) (r : Option ℕ) (code : AsmCode)
      → parts_of line ≡ Some parts → IsInstName G parts.name opcode entry
      → ((wrong : AsmCode) → ¬ (ResultFails G (start before opcode) (pattern_of entry) parts.result wrong))
      → IsResult parts.result r
      → OperandsFail G r (start before opcode) (map due (pattern_of entry)) parts.operands code
      → LineFails G before written line code
  long : (i : PlainInst) (further : List ℕ) → IsReadLine G before i further line
      → (greatest_count < length further + 1) ⊎ (greatest_length < written + (length further + 1))
      → LineFails G before written line S5

-- The first line that fails, counted from 0, with its code; the lines before it are read. [own]
pub data LinesFail (G : Table) : List PlainInst → ℕ → List (List ℕ) → AsmCode → ℕ → Type 0 where
  here : (before : List PlainInst) (written : ℕ) (line : List ℕ) (lines : List (List ℕ)) (code : AsmCode)
      → LineFails G before written line code → LinesFail G before written (line ∷ lines) code 0
  later : (before : List PlainInst) (written : ℕ) (line : List ℕ) (lines : List (List ℕ)) (code : AsmCode)
      (n : ℕ) (i : PlainInst) (further : List ℕ)
      → IsReadLine G before i further line → length further + 1 ≤ greatest_count
      → written + (length further + 1) ≤ greatest_length
      → LinesFail G (before ++ (i ∷ [])) (written + (length further + 1)) lines code n
      → LinesFail G before written (line ∷ lines) code (suc n)

-- the header's lines by number, from 1 [own]
pub data HeaderLine : Type 0 where
  Magic : HeaderLine
  Version : HeaderLine
  Generator : HeaderLine
  Bound : HeaderLine
  Schema : HeaderLine

-- the number of a header line [own]
abbrev pub number_of : HeaderLine → ℕ
number_of Magic = 1
number_of Version = 2
number_of Generator = 3
number_of Bound = 4
number_of Schema = 5

-- A line, or that there is none, is the header's of that number. [own]
abbrev pub IsHeaderLine : HeaderLine → Option (List ℕ) → Type 0
IsHeaderLine Magic l = l ≡ Some (codes "; SPIR-V")
IsHeaderLine Version l = l ≡ Some (codes "; Version: 1.6")
IsHeaderLine Generator l = (g : ℕ) × (g < 2 ^ 32) × (l ≡ Some (codes "; Generator: " ++ decimal g))
IsHeaderLine Bound l = (b : ℕ) × (1 ≤ b) × (b ≤ greatest_bound) × (l ≡ Some (codes "; Bound: " ++ decimal b))
IsHeaderLine Schema l = l ≡ Some (codes "; Schema: 0")

-- The line is a generator that is too large. [own]
abbrev pub IsLargeGenerator : HeaderLine → Option (List ℕ) → Type 0
IsLargeGenerator Generator l = (ds : List ℕ) × IsLarge (2 ^ 32) ds × (l ≡ Some (codes "; Generator: " ++ ds))
IsLargeGenerator _ l = ⊥

-- the line of a number, if there is one [own]
abbrev pub line_at : List (List ℕ) → HeaderLine → Option (List ℕ)
line_at ls Magic = slice_get ls 0
line_at ls Version = slice_get ls 1
line_at ls Generator = slice_get ls 2
line_at ls Bound = slice_get ls 3
line_at ls Schema = slice_get ls 4

-- The first header line with a fault is missing or ill-formed, or a generator that is too large. [own]
pub record HeaderFails (ls : List (List ℕ)) (code : AsmCode) (n : ℕ) : Type 0 where
  pub line : HeaderLine
  pub number : number_of line ≡ n
  pub before : (other : HeaderLine) → number_of other < n → IsHeaderLine other (line_at ls other)
  pub wrong : ¬ (IsHeaderLine line (line_at ls line))
  pub code_is : ((code ≡ S4) × IsLargeGenerator line (line_at ls line))
      ⊎ ((code ≡ S1) × (¬ (IsLargeGenerator line (line_at ls line))))

-- A text fails with a code at a line: in the header, or at the first line after it that fails. [own]
pub data IsFailure (G : Table) (t : List ℕ) : AsmCode → ℕ → Type 0 where
  header : (code : AsmCode) (n : ℕ) → HeaderFails (lines_of t) code n → IsFailure G t code n
  line : (h : Header) (lines : List (List ℕ)) (code : AsmCode) (n : ℕ) → HeaderFits h → h.generator < 2 ^ 32
      → lines_of t ≡ header_lines h ++ lines
      → LinesFail G [] 5 lines code n → IsFailure G t code (6 + n)

-- what an error of `assemble` says: where the text fails, or that memory ran out [own]
abbrev pub IsAsmFailure : Table → List ℕ → AsmCode → ℕ → Type 0
IsAsmFailure G t S6 n = n ≡ 0
IsAsmFailure G t code n = IsFailure G t code n
