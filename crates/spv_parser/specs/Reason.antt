-- Why a text fails: where the reading of its line stops, and what is wanted there. A failure (Refusal and Fault of
-- spv_lines) shows both: it says which operands are read, from left to right, and which slot refuses the rest. (Own.)
use Rattle.std.specs.Prelude.{◌≡◌, ◌++◌, ◌-◌, ◌+◌, ℕ, List, [], ◌∷◌, Option, Some, None, Bool, false, length}
use Rattle.std.specs.Prelude.{nat_eq, nat_le, unwrap_or, if◌then◌else◌}
use Rattle.std.specs.List.{list_any}
use Rattle.spv_table.specs.Table.{Table, Item}
use Rattle.spv_module.specs.Operand.{PlainInst, Context}
use Rattle.spv_module.specs.Shape.{Slot, Shape, AsType, AsResult, AsId, AsWord, AsNumber, AsText, AsValue, AsMask}
use Rattle.spv_module.specs.Shape.{AsParts, AsNothing, shape_of}
use Rattle.spv_inst.specs.Flat.{Due}
use Rattle.spv_lines.specs.declared.asm_error.AsmCode.{AsmCode}
use Rattle.spv_lines.specs.Operand.{is_float}
use Rattle.spv_lines.specs.Line.{before_space, from_space}
use Rattle.spv_lines.specs.Text.{lines_of}
use Rattle.spv_lines.specs.Refusal.{OperandsFail}
use Rattle.spv_lines.specs.Fault.{ResultFails, LineFails, LinesFail, HeaderLine, number_of, line_at, IsFailure}
use Rattle.spv_lines.specs.Fault.{may_have_result}
use Rattle.spv_parser.specs.declared.text_reason.TextReason.{TextReason}
use Rattle.spv_parser.specs.declared.text_reason.Wanted.{Wanted}
use Rattle.spv_parser.specs.declared.text_reason.Wanted.TheVariants as wanted

-- what is left of a line where its reading stops, and what is wanted there [own]
pub record Stop : Type 0 where
  pub rest : List ℕ
  pub wanted : Wanted

-- what stands behind the space at the front [own]
abbrev pub behind_space : List ℕ → List ℕ
behind_space [] = []
behind_space (b ∷ t) = if nat_eq b 32 then t else b ∷ t

-- the word behind the space at the front, and what follows it; all from the space on where no word stands there [own]
abbrev pub word_behind : List ℕ → List ℕ
word_behind t = if nat_eq (length (before_space (behind_space t))) 0 then t else behind_space t

-- a number of a width, if that is known: up to 32 bits it has one word, else two [own]
abbrev pub wanted_number : Bool → Option ℕ → Wanted
wanted_number hex None = wanted.KnownWidth
wanted_number hex (Some w) = wanted.Number (if nat_le w 32 then 1 else 2) hex

-- what a kind of that number wants by its shape; a number in hexadecimal or not [own]
abbrev pub wanted_as : Bool → ℕ → Shape → Wanted
wanted_as hex k AsType = wanted.Id
wanted_as hex k AsResult = wanted.Result
wanted_as hex k AsId = wanted.Id
wanted_as hex k AsWord = wanted.Number 1 false
wanted_as hex k (AsNumber w) = wanted_number hex w
wanted_as hex k AsText = wanted.Text
wanted_as hex k (AsValue es) = wanted.Value k
wanted_as hex k (AsMask es) = wanted.Mask k
wanted_as hex k (AsParts ss) = wanted.Nothing k
wanted_as hex k AsNothing = wanted.Nothing k

-- what a slot wants [own]
abbrev pub wanted_at : Table → Context → Slot → Wanted
wanted_at G c s = wanted_as (is_float G c s) s.kind (shape_of G c s)

-- Where operands that fail stop: at the slot that refuses the rest of the line; where nothing is due, at what goes on,
-- or at the end where the line's result has no place. [own]
abbrev pub operands_stop : (G : Table) (r : Option ℕ) (c : Context) (ds : List Due) (t : List ℕ) (code : AsmCode)
    → OperandsFail G r c ds t code → Stop
operands_stop G r _ _ _ _ (OperandsFail.left c b t) = record { rest = word_behind (b ∷ t); wanted = wanted.End }
operands_stop G r _ _ _ _ (OperandsFail.unused c n) = record { rest = []; wanted = wanted.NoResult }
operands_stop G r _ _ _ _ (OperandsFail.refused c s ds t code l f) =
    record { rest = behind_space t; wanted = wanted_at G c s }
operands_stop G r _ _ _ _ (OperandsFail.after c s ds o ss t rest code h m) = operands_stop G r _ _ rest code m
operands_stop G r _ _ _ _ (OperandsFail.parts c s ds ss t code e m) = operands_stop G r c _ t code m
operands_stop G r _ _ _ _ (OperandsFail.no_maybe c s ds code n m) = operands_stop G r c ds [] code m
operands_stop G r _ _ _ _ (OperandsFail.maybe c s ds t code n m) = operands_stop G r c _ t code m
operands_stop G r _ _ _ _ (OperandsFail.no_many c s ds code n m) = operands_stop G r c ds [] code m
operands_stop G r _ _ _ _ (OperandsFail.many c s ds t code n m) = operands_stop G r c _ t code m

-- what is wanted where what stands in front of ` = ` fails: a result, if the pattern may have one [own]
abbrev pub wanted_in_front : (G : Table) (c : Context) (is : List Item) (front : Option (List ℕ)) (code : AsmCode)
    → ResultFails G c is front code → Wanted
wanted_in_front G c is _ _ (ResultFails.missing e) = wanted.Result
wanted_in_front G c is _ _ (ResultFails.too_many t e) = wanted.NoResult
wanted_in_front G c is _ _ (ResultFails.ill_formed t n) =
    if list_any (may_have_result G c) is then wanted.ResultId else wanted.NoResult
wanted_in_front G c is _ _ (ResultFails.large ds e l) = wanted.ResultId

-- Where a line that fails stops: behind its first word where it has no ` = `, at the name, at the front of the line for
-- its result and where it is too long, and else in its operands. [own]
abbrev pub line_stop : (G : Table) (before : List PlainInst) (written : ℕ) (line : List ℕ) (code : AsmCode)
    → LineFails G before written line code → Stop
line_stop G before written line _ (LineFails.undivided e) =
    record { rest = word_behind (from_space line); wanted = wanted.Equals }
line_stop G before written line _ (LineFails.name parts e n) =
    record { rest = parts.name ++ parts.operands; wanted = wanted.Name }
line_stop G before written line _ (LineFails.result parts opcode entry code e n f) =
    record { rest = line; wanted = wanted_in_front G _ _ _ code f }
line_stop G before written line _ (LineFails.operands parts opcode entry r code e n w h f) =
    operands_stop G r _ _ _ code f
line_stop G before written line _ (LineFails.long i further h l) = record { rest = line; wanted = wanted.Shorter }

-- the line that fails, which is empty where the text has no such line, and where it stops [own]
pub record Reason : Type 0 where
  pub line : List ℕ
  pub stop : Stop

-- a reason as the code has it [own]
abbrev pub plain_reason : TextReason → Reason
plain_reason r = record { line = r.text.now; stop = record { rest = r.rest.now; wanted = r.wanted } }

-- of lines of instructions, the first one that fails [own]
abbrev pub lines_reason : (G : Table) (before : List PlainInst) (written : ℕ) (lines : List (List ℕ)) (code : AsmCode)
    (n : ℕ) → LinesFail G before written lines code n → Reason
lines_reason G _ _ _ _ _ (LinesFail.here before written line lines code m) =
    record { line = line; stop = line_stop G before written line code m }
lines_reason G _ _ _ _ _ (LinesFail.later before written line lines code n i further h k l m) =
    lines_reason G _ _ lines code n m

-- of a header's line, all of it [own]
abbrev pub header_reason : HeaderLine → List ℕ → Reason
header_reason l line = record { line = line; stop = record { rest = line; wanted = wanted.HeaderLine (number_of l) } }

-- why a text that fails does so [own]
abbrev pub reason_of : (G : Table) (t : List ℕ) (code : AsmCode) (n : ℕ) → IsFailure G t code n → Reason
reason_of G t _ _ (IsFailure.header code n h) = header_reason h.line (unwrap_or (line_at (lines_of t) h.line) [])
reason_of G t _ _ (IsFailure.line h lines code n f g e m) = lines_reason G [] 5 lines code n m

-- A text fails with a code at a line, for a reason. [own]
pub record FailsFor (G : Table) (t : List ℕ) (code : AsmCode) (n : ℕ) (reason : Reason) : Type 0 where
  pub failure : IsFailure G t code n
  pub tells : reason_of G t code n failure ≡ reason

-- the octet of the line where its reading stops, from 1 [own]
abbrev pub column_of : Reason → ℕ
column_of reason = length reason.line - length reason.stop.rest + 1
