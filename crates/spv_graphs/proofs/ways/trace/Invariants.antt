use Rattle.spv_graphs.specs.inner.Steps.{level_of, IsTraced}
use Rattle.spv_graphs.proofs.ways.trace.Given as goal

abbrev pub invariant-loop-node : goal.invariant-loop-node
invariant-loop-node l = IsTraced l.steps l.goal l.nodes.items l.node

abbrev pub decreases-loop-node : goal.decreases-loop-node
decreases-loop-node l = level_of l.steps l.node
