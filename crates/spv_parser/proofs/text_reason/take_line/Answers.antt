use Rattle.std.proofs.Common.{length}
use Rattle.spv_parser.proofs.Halting.{line_long_stops, line_taken, stays_stopped}
use Rattle.spv_parser.proofs.text_reason.take_line.Goals as goal

pub returns-in_default : goal.returns-in_default
returns-in_default c =
    λ before k. stays_stopped c.args.setting.now.table.now before c.args.line.now _ c.args.draft.now c.args.draft.now
    c.in_ok-outcome.outcome c.in_default.field-0 c.in_default.is
    (c.in_ok-outcome.ensures before (length c.args.draft.now) k)

pub returns-in-Ok : goal.returns-in-Ok
returns-in-Ok c = λ before k.
    let h = rw c.in-Read.is at (c.in_ok-outcome.ensures before (length c.args.draft.now) k) in
    line_taken c.args.setting.now.table.now before c.args.line.now c.args.draft.now c.put_instruction.new.draft _
    c.in-Read.kept h (rw c.as_slice.ensures.value at c.in-Ok.ensures.added)
    (rw c.as_slice.ensures.value at c.in-Ok.ensures.count) (rw c.as_slice.ensures.value at c.in-Ok.ensures.short)

pub returns-in_ok-stop-in-Err : goal.returns-in_ok-stop-in-Err
returns-in_ok-stop-in-Err c = λ before k.
    let h = rw c.in-Read.is at (c.in_ok-outcome.ensures before (length c.args.draft.now) k) in
    let f = rw c.as_slice.ensures.value at c.in-Err.ensures.long in
    rw c.in_ok-stop-in-Err.ensures.stop (line_long_stops c.args.setting.now.table.now before c.args.line.now _
    (length c.args.draft.now) c.in-Read.kept c.in-Err.code c.in_ok-stop-in-Err.ensures.code h f)
