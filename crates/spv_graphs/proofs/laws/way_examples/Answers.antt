use Rattle.spv_graphs.proofs.Worked.{round, to_closed, shortest, longer}
use Rattle.spv_graphs.proofs.laws.way_examples.Goals as goal

pub returns-clause-round : goal.returns-clause-round
returns-clause-round c = round

pub returns-clause-to_closed : goal.returns-clause-to_closed
returns-clause-to_closed c = to_closed

pub returns-clause-shortest : goal.returns-clause-shortest
returns-clause-shortest c = shortest

pub returns-clause-longer : goal.returns-clause-longer
returns-clause-longer c = longer
