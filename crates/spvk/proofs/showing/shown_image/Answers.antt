use Rattle.spvk.proofs.Showings.{dead_shown, text_shown}
use Rattle.spvk.proofs.showing.shown_image.Goals as goal

pub returns-in-Ok : goal.returns-in-Ok
returns-in-Ok c = λ bytes order h.
    text_shown c.args.table.now c.args.reach bytes c.args.image.now _ order _ h c.in-Ok.ensures.shown c.of.ensures.verdict
    c.of.ensures.buffer

pub returns-in-Err-Fault : goal.returns-in-Err-Fault
returns-in-Err-Fault c = λ bytes order h.
    dead_shown c.args.table.now c.args.reach bytes c.args.image.now order _ c.in-Err-Fault.fault _ c.in-Err-Fault.field-0-is h
    c.in-Err-Fault.ensures.dead
    (rw c.in-Err-Fault.field-0-is at c.none.ensures.verdict) c.none.ensures.buffer
