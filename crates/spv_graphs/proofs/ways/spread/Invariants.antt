use Rattle.spv_graphs.specs.inner.Steps.{Keeps}
use Rattle.spv_graphs.proofs.ways.spread.Given as goal

abbrev pub invariant-loop : goal.invariant-loop
invariant-loop l = Keeps l.edges l.closed l.fn.steps.items l.steps.items
