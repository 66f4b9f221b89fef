use Rattle.spv_commands.specs.Trace.{BeginsTracing, Traces}
use Rattle.spv_streams.proofs.Carries.{begin_traced, carry_traced}
use Rattle.spv_streams.proofs.Written.{one_answered}
use Rattle.spv_streams.proofs.tracing.trace_stream.Goals as goal

pub returns-clause-ends : goal.returns-clause-ends
returns-clause-ends g c =
    one_answered (Traces c.args.table.now c.args.reach c.args.function c.args.choices.now c.args.limit)
    (BeginsTracing c.args.table.now c.args.reach c.args.function c.args.choices.now c.args.limit)
    (carry_traced c.args.table.now c.args.reach c.args.function c.args.choices.now c.args.limit)
    (begin_traced c.args.table.now c.args.reach c.args.function c.args.choices.now c.args.limit)
    _ _ c.in_ok-reply.reply _ c.in_ok-reply.ensures.known
    (λ f. let failed = c.in_ok-reply.ensures.count.0 f in cc) c.write_out.ensures
