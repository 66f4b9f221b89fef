use Rattle.spv_commands.proofs.Tracings.{checked_by, fault_traced, has_several, lacks_id, only_two, run_traced}
use Rattle.spv_commands.proofs.tracing.traced_of.Goals as goal

pub returns-in-Ok-Fault-clause-traced : goal.returns-in-Ok-Fault-clause-traced
returns-in-Ok-Fault-clause-traced c = λ bytes order h.
    fault_traced c.args.table.now c.args.reach c.args.function c.args.choices.now c.args.limit bytes c.args.image.now
    order c.in-Ok-Fault.field-0 c.in-Ok-Fault.fault c.in-Ok-Fault.field-0-is h c.in-Ok-Fault.ensures.verdict

pub returns-in-Ok-clause-traced : goal.returns-in-Ok-clause-traced
returns-in-Ok-clause-traced c = λ bytes order h.
    let checked = checked_by c.args.table.now c.args.reach c.args.image.now c.in-Ok-Valid.field-0 c.in-Ok-Valid.checked
    c.in-Ok-Valid.field-0-is c.in-Ok-Valid.ensures.verdict in
    let run = c.in-Ok.ensures.run in
    run_traced c.args.table.now c.args.reach c.args.function c.args.choices.now c.args.limit bytes c.args.image.now
    order c.in-Ok-Valid.checked run.0 c.in-Ok.run' h checked run.1
    (run.2 c.args.table.now c.args.reach checked.sound)
