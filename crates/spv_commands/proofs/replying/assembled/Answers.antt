use Rattle.std.proofs.Common.{refl}
use Rattle.spv_commands.proofs.Answerings.{failed_assembles, made_assembles}
use Rattle.spv_commands.proofs.replying.assembled.Goals as goal

pub returns-in-Ok-Made-clause-gives : goal.returns-in-Ok-Made-clause-gives
returns-in-Ok-Made-clause-gives c =
    made_assembles c.args.table.now c.args.order c.args.explain c.args.opencl c.args.bytes.items _ _ c.made.result
    (rw c.deref.ensures.value at c.minor_in-minor.ensures) (rw (c.in-Ok-Made.field-0-is, c.put_read.ensures) at c.in-Ok-Made.ensures.comes)
    c.made.ensures.made c.made.ensures.out c.made.ensures.done

pub returns-in-Ok-Fault-clause-gives : goal.returns-in-Ok-Fault-clause-gives
returns-in-Ok-Fault-clause-gives c =
    failed_assembles c.args.table.now c.args.order c.args.explain c.args.opencl c.args.bytes.items _ _
    c.text_fault.ensures (rw (c.in-Ok-Fault.field-0-is, c.put_read.ensures) at c.in-Ok-Fault.ensures.comes)

pub returns-in-Ok-Told-clause-gives : goal.returns-in-Ok-Told-clause-gives
returns-in-Ok-Told-clause-gives c =
    failed_assembles c.args.table.now c.args.order c.args.explain c.args.opencl c.args.bytes.items _ _ refl
    (rw (c.in-Ok-Told.field-0-is, c.put_read.ensures) at c.in-Ok-Told.ensures.comes)
