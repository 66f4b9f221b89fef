use Rattle.spv_flow.specs.declared.calls.ordered.Way.TheVariants.{Back, On}
use Rattle.spv_flow.proofs.lemmas.calls.Orders.{leading_acyclic}
use Rattle.spv_flow.proofs.calls.ordered.are_ordered.Goals as goal

pub returns-then-all_lead : goal.returns-then-all_lead
returns-then-all_lead c = λ t. leading_acyclic c.args.calls.now Back (c.all_lead.ensures c.if-all_lead.true)

pub returns-else-all_lead : goal.returns-else-all_lead
returns-else-all_lead c = λ t. leading_acyclic c.args.calls.now On (c.all_lead-else-all_lead.ensures t)
