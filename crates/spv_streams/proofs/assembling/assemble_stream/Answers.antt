use Rattle.spv_commands.specs.Assemble.{Assembles, BeginsAssembling}
use Rattle.spv_streams.proofs.Carries.{begin_assembled, carry_assembled}
use Rattle.spv_streams.proofs.Written.{both_written}
use Rattle.spv_streams.proofs.assembling.assemble_stream.Goals as goal

pub returns-clause-ends : goal.returns-clause-ends
returns-clause-ends g c =
    both_written (Assembles c.args.table.now c.args.order c.args.explain c.args.opencl)
    (BeginsAssembling c.args.table.now c.args.order c.args.explain c.args.opencl)
    (carry_assembled c.args.table.now c.args.order c.args.explain c.args.opencl)
    (begin_assembled c.args.table.now c.args.order c.args.explain c.args.opencl)
    _ _ _ c.in_ok-reply.reply _ c.in_ok-reply.ensures.known
    (λ f. let failed = c.in_ok-reply.ensures.count.0 f in cc) c.write_reply.ensures.written
