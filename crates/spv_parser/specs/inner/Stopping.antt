-- What the reading of a text that fails keeps and answers. (For the code alone.)
use Rattle.std.specs.Prelude.{◌≡◌, ◌≢◌, ◌⊎◌, ◌+◌, [], ℕ, List, Option, Result, Ok, Err, length}
use Rattle.spv_table.specs.Table.{Table, Item}
use Rattle.spv_inst.specs.Flat.{Due}
use Rattle.spv_module.specs.Operand.{PlainInst, Context, start}
use Rattle.spv_lines.specs.declared.asm_error.AsmCode.{AsmCode}
use Rattle.spv_lines.specs.Refusal.{OperandsFail, Pends}
use Rattle.spv_lines.specs.Fault.{ResultFails, LineFails, LinesFail}
use Rattle.spv_parser.specs.Reason as reason
use Rattle.spv_parser.specs.Reason.{Reason, plain_reason, operands_stop, wanted_in_front, line_stop, lines_reason}
use Rattle.spv_parser.specs.declared.text_reason.Wanted.{Wanted}
use Rattle.spv_parser.specs.declared.text_reason.TextReason.{TextReason}
use Rattle.spv_parser.specs.declared.stops.Stop.{Stop}
use Rattle.spv_parser.specs.declared.stops.Lack.{Lack}
use Rattle.spv_parser.specs.declared.stops.Outcome.{Outcome}
use Rattle.spv_parser.specs.declared.stops.Outcome.TheVariants.{Read, Stopped}
use Rattle.spv_parser.specs.inner.Heading.{IsFront}
use Rattle.spv_parser.specs.inner.Lines.{HasLine}
use Rattle.spv_parser.specs.inner.Reading.{AreRead, IsLine}

-- a stop of the code
abbrev pub plain_stop : Stop → reason.Stop
plain_stop s = record { rest = s.rest.now; wanted = s.wanted }

-- Operands fail, and stop there.
pub record StopsAt (G : Table) (r : Option ℕ) (c : Context) (ds : List Due) (t : List ℕ) (code : AsmCode)
    (stop : reason.Stop) : Type 0 where
  pub failure : OperandsFail G r c ds t code
  pub tells : operands_stop G r c ds t code failure ≡ stop

-- What stands in front fails, and wants that.
pub record LacksResult (G : Table) (c : Context) (is : List Item) (front : Option (List ℕ)) (code : AsmCode)
    (wanted : Wanted) : Type 0 where
  pub failure : ResultFails G c is front code
  pub tells : wanted_in_front G c is front code failure ≡ wanted

-- A line fails, and stops there.
pub record LineStopsAt (G : Table) (before : List PlainInst) (written : ℕ) (line : List ℕ) (code : AsmCode)
    (stop : reason.Stop) : Type 0 where
  pub failure : LineFails G before written line code
  pub tells : line_stop G before written line code failure ≡ stop

-- Lines fail for a reason, the first one that does counted from 0.
pub record LinesFailFor (G : Table) (before : List PlainInst) (written : ℕ) (lines : List (List ℕ)) (code : AsmCode)
    (n : ℕ) (why : Reason) : Type 0 where
  pub failure : LinesFail G before written lines code n
  pub tells : lines_reason G before written lines code n failure ≡ why

-- the operands of a line were read, or stop
abbrev pub HaveOutcome : Table → Option ℕ → List PlainInst → ℕ → List Due → List ℕ → List ℕ → Outcome → Type 0
HaveOutcome G r before opcode ds t words (Read line) = AreRead G r before opcode ds t words line
HaveOutcome G r before opcode ds t words (Stopped s) = StopsAt G r (start before opcode) ds t s.code (plain_stop s)

-- the result that stands in front of ` = `, or that nothing does; or what is wanted there
abbrev pub HasFront : Table → Context → List Item → Option (List ℕ) → Result (Option ℕ) Lack → Type 0
HasFront G c is p (Ok r) = IsFront G c is p (Ok r)
HasFront G c is p (Err lack) = LacksResult G c is p lack.code lack.wanted

-- a line was read, or stops
abbrev pub HasOutcome : Table → List PlainInst → ℕ → List ℕ → List ℕ → Outcome → Type 0
HasOutcome G before written line words (Read kept) = IsLine G before line words kept
HasOutcome G before written line words (Stopped s) = LineStopsAt G before written line s.code (plain_stop s)

-- a line was read, and its instruction's words are added; or it stops
abbrev pub IsTakenOr : Table → List PlainInst → List ℕ → List ℕ → List ℕ → Outcome → Type 0
IsTakenOr G before line old new (Read kept) = HasLine G before line old new kept
IsTakenOr G before line old new (Stopped s) = LineStopsAt G before (length old) line s.code (plain_stop s)

-- the lines behind the header's fail for a reason
abbrev pub StopIn : Table → List (List ℕ) → TextReason → Type 0
StopIn G lines r = (n : ℕ) × (r.line ≡ 6 + n) × LinesFailFor G [] 5 lines r.code n (plain_reason r)

-- Something is left: of the line, or its result.
abbrev pub IsLeft : Option ℕ → Context → List ℕ → Type 0
IsLeft r c t = (t ≢ []) ⊎ Pends r c
