use Rattle.spv_block_order.proofs.Worked.{turned_early, in_order_late, unreached_early, defined_late}
use Rattle.spv_block_order.proofs.laws.order_examples.Goals as goal

pub returns-clause-turned : goal.returns-clause-turned
returns-clause-turned c = turned_early

pub returns-clause-in_order : goal.returns-clause-in_order
returns-clause-in_order c = in_order_late

pub returns-clause-unreached : goal.returns-clause-unreached
returns-clause-unreached c = unreached_early

pub returns-clause-defined : goal.returns-clause-defined
returns-clause-defined c = defined_late
