use Rattle.spvk.proofs.Judgments.{fault_judged, valid_judged}
use Rattle.spvk.proofs.judging.judged.Goals as goal

pub returns-in-Ok-Valid : goal.returns-in-Ok-Valid
returns-in-Ok-Valid c = λ bytes order h.
    valid_judged c.args.table.now c.args.reach bytes c.args.image.now order c.in-Ok-Valid.field-0
    c.in-Ok-Valid.field-0-0 c.in-Ok-Valid.field-0-is h c.in-Ok-Valid.ensures.verdict

pub returns-in-Ok-Fault : goal.returns-in-Ok-Fault
returns-in-Ok-Fault c = λ bytes order h.
    fault_judged c.args.table.now c.args.reach bytes c.args.image.now order c.in-Ok-Fault.field-0 c.in-Ok-Fault.fault
    c.in-Ok-Fault.field-0-is h c.in-Ok-Fault.ensures.verdict
