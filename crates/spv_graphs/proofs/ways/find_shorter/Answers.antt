use Rattle.std.proofs.Common.{arith}
use Rattle.std.proofs.lemmas.Grind.{elements}
use Rattle.spv_graphs.proofs.ways.find_shorter.Goals as goal

pub returns-then-shortens : goal.returns-then-shortens
returns-then-shortens c = grind (arith, elements)

pub loop-edge-preserved : goal.loop-edge-preserved
loop-edge-preserved c = grind (arith, elements)

pub returns : goal.returns
returns c = grind (arith, elements)
