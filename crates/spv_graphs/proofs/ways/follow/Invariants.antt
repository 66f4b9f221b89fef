use Rattle.spv_graphs.specs.inner.Steps.{Keeps}
use Rattle.spv_graphs.proofs.ways.follow.Given as goal

abbrev pub invariant-loop-place : goal.invariant-loop-place
invariant-loop-place l = Keeps l.edges l.closed l.fn.steps.items l.steps.items
