use Rattle.spv_graph_order.proofs.Worked.{early, late}
use Rattle.spv_graph_order.proofs.laws.order_examples.Goals as goal

pub returns-clause-early : goal.returns-clause-early
returns-clause-early c = early

pub returns-clause-late : goal.returns-clause-late
returns-clause-late c = late
