use Rattle.spv_streams.proofs.Written.{answered}
use Rattle.spv_streams.proofs.runs.done_by.Goals as goal

pub returns-clause-ends : goal.returns-clause-ends
returns-clause-ends g c =
    answered c.args.command.now c.args.table.now _ _ _ c.in_ok-reply.reply _ c.in_ok-reply.ensures.does
    (λ f. let failed = c.in_ok-reply.ensures.count.0 f in cc)
    c.write_reply.ensures.written
