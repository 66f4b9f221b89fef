use Rattle.spv_flow.specs.calls.inner.Ordered.{Leads}
use Rattle.spv_flow.proofs.lemmas.calls.Lists.{each_more, each_all}
use Rattle.spv_flow.proofs.calls.ordered.all_lead.Goals as goal

pub loop-call-preserved : goal.loop-call-preserved
loop-call-preserved c =
    each_more (λ k d. Leads c.args.way d) c.args.calls.now c.loop-call.call-index _ c.loop-call-test.true
    c.loop-call.invariant (c.leads.ensures c.if-not-leads.false)

pub returns : goal.returns
returns c = λ t. record {
  each = each_all (λ k d. Leads c.args.way d) c.args.calls.now c.loop-call.call-index
      c.loop-call-test.false c.loop-call.invariant;
}
