use Rattle.std.specs.Prelude.{sum_by}
use Rattle.spv_graphs.specs.declared.steps.Step.{Step}
use Rattle.spv_graphs.specs.inner.Steps.{Keeps}
use Rattle.spv_graphs.proofs.ways.settle.Given as goal

abbrev pub invariant-loop-edge : goal.invariant-loop-edge
invariant-loop-edge l = Keeps l.edges l.closed l.fn.steps.items l.steps.items

abbrev pub decreases-loop-edge : goal.decreases-loop-edge
decreases-loop-edge l = sum_by (λ (s : Step). s.level) l.steps.items
