use Rattle.std.proofs.Common.{◌<◌}
use Rattle.spv_flow.specs.calls.inner.Components.{number_of}
use Rattle.spv_flow.proofs.lemmas.calls.Lists.{each_more, each_all}
use Rattle.spv_flow.proofs.calls.ordered.are_falling.Goals as goal

pub loop-call-preserved : goal.loop-call-preserved
loop-call-preserved c =
    each_more (λ k d. number_of c.args.numbers.now d.callee < number_of c.args.numbers.now d.caller) c.args.calls.now
    c.loop-call.call-index _ c.loop-call-test.true c.loop-call.invariant
    (rw (c.number_at.ensures, c.number_at-in-loop-call.ensures) at c.if-number_at.false)

pub returns : goal.returns
returns c = λ t. record {
  each = each_all (λ k d. number_of c.args.numbers.now d.callee < number_of c.args.numbers.now
      d.caller) c.args.calls.now c.loop-call.call-index c.loop-call-test.false c.loop-call.invariant;
}
