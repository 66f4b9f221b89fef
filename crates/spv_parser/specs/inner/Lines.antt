-- What the reading of a text's lines keeps and answers. (For the code alone.)
use Rattle.std.specs.Prelude.{◌≡◌, ◌<◌, ◌≤◌, ◌+◌, ◌^◌, ◌++◌, ◌∷◌, [], ◌⊎◌, ℕ}
use Rattle.std.specs.Prelude.{List, Some, true, length, slice_get}
use Rattle.spv_table.specs.Table.{Table}
use Rattle.spv_module.specs.Operand.{PlainInst}
use Rattle.spv_module.specs.Instruction.{first_word}
use Rattle.spv_words.specs.Header.{greatest_length}
use Rattle.spv_inst.specs.Limits.{greatest_count}
use Rattle.spv_lines.specs.declared.asm_error.AsmCode.{AsmCode}
use Rattle.spv_lines.specs.declared.asm_error.AsmCode.TheVariants.{S5, S6}
use Rattle.spv_lines.specs.Digits.{is_number, IsLarge}
use Rattle.spv_lines.specs.Text.{lines_of, ReadLines}
use Rattle.spv_lines.specs.Fault.{LinesFail}
use Rattle.spv_lines.specs.declared.misread.Misread.{Misread}
use Rattle.spv_lines.specs.declared.misread.Misread.TheVariants.{IllFormed, TooLarge}
use Rattle.spv_parser.specs.declared.operands.Line.{Line}
use Rattle.spv_parser.specs.inner.Reading.{IsLine}

-- why no number of 32 bits stands behind a front in the first line of a text
abbrev pub IsNoNumber : List ℕ → List ℕ → Misread → Type 0
IsNoNumber t front TooLarge = (ds : List ℕ) × (slice_get (lines_of t) 0 ≡ Some (front ++ ds))
    × IsLarge (2 ^ 32) ds
IsNoNumber t front IllFormed = (ds : List ℕ) → slice_get (lines_of t) 0 ≡ Some (front ++ ds)
    → is_number ds ≡ true → ⊥

-- an instruction is too long, or the module, which has so many words, would be with it; or memory ran out
abbrev pub IsTooLongOr : List ℕ → ℕ → AsmCode → Type 0
IsTooLongOr further written S5 =
    (greatest_count < length further + 1) ⊎ (greatest_length < written + (length further + 1))
IsTooLongOr further written S6 = Unit {0}
IsTooLongOr further written _ = ⊥

-- A line was read after the instructions before, and its instruction's words are added.
pub record HasLine (G : Table) (before : List PlainInst) (octets old new : List ℕ) (kept : Line) : Type 0 where
  pub further : List ℕ
  pub line : IsLine G before octets further kept
  pub words : new ≡ old ++ (first_word kept.opcode further ∷ further)
  pub count : length further + 1 ≤ greatest_count
  pub short : length old + (length further + 1) ≤ greatest_length

-- The lines are read as instructions, whose words are added; the module is short enough.
pub record HasLines (G : Table) (lines : List (List ℕ)) (old new : List ℕ) : Type 0 where
  pub insts : List PlainInst
  pub words : List ℕ
  pub read : ReadLines G [] insts lines words
  pub all : new ≡ old ++ words
  pub short : length new ≤ greatest_length

-- the line of an error, by how many lines of instructions stand before it
abbrev pub told_line : AsmCode → ℕ → ℕ
told_line S6 n = 0
told_line _ n = n + 6

-- the lines behind the header's fail, or memory ran out
abbrev pub LinesFailOr : Table → List (List ℕ) → AsmCode → ℕ → Type 0
LinesFailOr G lines S6 line = line ≡ 0
LinesFailOr G lines code line = (n : ℕ) × (line ≡ 6 + n) × LinesFail G [] 5 lines code n
