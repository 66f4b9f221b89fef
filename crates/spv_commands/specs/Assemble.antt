-- What `asm` makes of a text. (Own.)
use Rattle.std.specs.Prelude.{◌≡◌, ◌≤◌, ◌++◌, ◌*◌, ℕ, List, length, Option, Some, None, Bool, true, false, IfSome}
use Rattle.std.specs.Prelude.{IsUtf8, drop, take}
use Rattle.std.specs.Prelude.{codes, decimal, if◌then◌else◌}
use Rattle.std.specs.Io.KnownBytes.{Appends, Keeps}
use Rattle.spv_words.specs.Header.{IsHeader}
use Rattle.spv_words.specs.Words.{StandFor}
use Rattle.spv_words.specs.declared.words.Header.{Header}
use Rattle.spv_words.specs.declared.words.Order.{Order}
use Rattle.spv_words.specs.declared.words.Order.TheVariants.{Little, Big}
use Rattle.spv_table.specs.Table.{Table}
use Rattle.spv_module.specs.Operand.{PlainInst}
use Rattle.spv_inst.specs.Outcome.{IsHeaderOf}
use Rattle.spv_lines.specs.Text.{IsReadText}
use Rattle.spv_lines.specs.Fault.{IsFailure}
use Rattle.spv_lines.specs.declared.asm_error.AsmCode.{AsmCode}
use Rattle.spv_lines.specs.declared.asm_error.AsmCode.TheVariants.{S1, S2, S3, S4, S5, S6}
use Rattle.spv_scope.specs.Minor.{with_minor}
use Rattle.spv_scope.specs.Told.{text_minor, with_text_minor}
use Rattle.spv_views.specs.text_fault.Lines.{Tells}
use Rattle.spv_commands.specs.Trouble.{BeginsWith}
use Rattle.spv_check.specs.Verdict.{line_end}

-- the code of a text's fault, as text
abbrev pub asm_code_text : AsmCode → List ℕ
asm_code_text S1 = codes "S1"
asm_code_text S2 = codes "S2"
asm_code_text S3 = codes "S3"
asm_code_text S4 = codes "S4"
asm_code_text S5 = codes "S5"
asm_code_text S6 = codes "S6"

-- `fault S3 line 7`, as an example: lines are counted from 1
abbrev pub text_fault_line : AsmCode → ℕ → List ℕ
text_fault_line code line = codes "fault " ++ asm_code_text code ++ codes " line " ++ decimal line ++ line_end

-- What is told of the fault of a text at a line: `fault S3 line 7`, and behind it, where that is asked for, lines that
-- say why, with a sentence for the code.
pub data TellsFault (G : Table) (text : List ℕ) (code : AsmCode) (line : ℕ) : Bool → List ℕ → Type 0 where
  alone : TellsFault G text code line false (text_fault_line code line)
  explained : (sentence lines : List ℕ) → Tells G sentence text code line lines
      → TellsFault G text code line true (text_fault_line code line ++ lines)

-- The text is UTF-8, and this is what is told of its first fault.
pub record IsFaultOf (G : Table) (explain : Bool) (text written : List ℕ) : Type 0 where
  pub code : AsmCode
  pub line : ℕ
  pub utf8 : IsUtf8 text
  pub fails : IsFailure G text code line
  pub told : TellsFault G text code line explain written

-- the order of the bytes that are made
abbrev pub order_of : Bool → Order
order_of big = if big then Big else Little

-- The text is UTF-8 and is read, under the grammar table, as a header and a list of instructions; the words are those
-- of the header, and behind them those of the list.
pub record IsImageOf (G : Table) (text words : List ℕ) : Type 0 where
  pub utf8 : IsUtf8 text
  pub header : Header
  pub insts : List PlainInst
  pub read : IsReadText G header insts (drop 5 words) text
  pub begins : IsHeader words
  pub told : IsHeaderOf words header

-- With `--opencl` a text that tells version 1.0 to 1.6 is read as one of 1.6, and the module that is made has the
-- version that it tells.
abbrev pub text_read : Bool → List ℕ → List ℕ
text_read false text = text
text_read true text = with_text_minor 6 text

abbrev pub minor_asked : Bool → List ℕ → Option ℕ
minor_asked false text = None
minor_asked true text = text_minor text

abbrev pub in_version : Option ℕ → List ℕ → List ℕ
in_version None bytes = bytes
in_version (Some minor) bytes = with_minor minor bytes

-- A writer that held `old` now also holds the first n of the bytes that stand for the words, in that version, and
-- nothing else.
pub record HoldsModule (o : Order) (minor : Option ℕ) (words old : List ℕ)
    (new : Option (List ℕ)) (n : ℕ) : Type 0 where
  pub plain : List ℕ
  pub stands : StandFor o plain words
  pub bytes : List ℕ
  pub version : bytes ≡ in_version minor plain
  pub fits : n ≤ length bytes
  pub front : new ≡ Some (old ++ take n bytes)

-- The standard output that held the bytes `old`, where they are known, holds `new`, and the file that held the bytes
-- `held`, where they are known, holds `kept`. The answer tells whether the text is that of a module.
pub data Assembles (G : Table) (o : Order) (explain opencl : Bool) (text : List ℕ) (old new held kept : Option (List ℕ))
    : Bool → Type 0 where
  -- it is: the file also holds all the bytes that stand for the words in the order, and the standard output is as it
  -- was
  made : (words : List ℕ) → IsImageOf G (text_read opencl text) words → Keeps old new
      → IfSome held (λ xs. HoldsModule o (minor_asked opencl text) words xs kept (4 * length words))
      → Assembles G o explain opencl text old new held kept true
  -- it is not: the standard output also holds what is told of the first fault, and the file is as it was
  failed : (written : List ℕ) → IsFaultOf G explain (text_read opencl text) written → Appends old new written
      → Keeps held kept → Assembles G o explain opencl text old new held kept false

-- The same for a beginning of the bytes, or of what is told.
pub data BeginsAssembling (G : Table) (o : Order) (explain opencl : Bool) (text : List ℕ)
    (old new held kept : Option (List ℕ)) : Type 0 where
  made : (words : List ℕ) → IsImageOf G (text_read opencl text) words → Keeps old new
      → IfSome held (λ xs. (n : ℕ) × HoldsModule o (minor_asked opencl text) words xs kept n)
      → BeginsAssembling G o explain opencl text old new held kept
  failed : (written : List ℕ) → IsFaultOf G explain (text_read opencl text) written
      → IfSome old (λ xs. BeginsWith written xs new) → Keeps held kept
      → BeginsAssembling G o explain opencl text old new held kept
