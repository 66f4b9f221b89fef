use Rattle.std.proofs.Common.{arith}
use Rattle.std.proofs.lemmas.Grind.{elements}
use Rattle.spv_graphs.proofs.queries.are_in_order.Goals as goal

pub returns-then-queries-at : goal.returns-then-queries-at
returns-then-queries-at c = grind (arith, elements)

pub loop-at-preserved : goal.loop-at-preserved
loop-at-preserved c = grind (arith, elements)

pub returns : goal.returns
returns c = grind (arith, elements)
