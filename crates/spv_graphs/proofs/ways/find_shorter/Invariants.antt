use Rattle.std.proofs.Common.{◌≡◌, ◌<◌, ℕ, Some}
use Rattle.std.specs.Prelude.{slice_get}
use Rattle.spv_graphs.specs.declared.edge.Edge.{Edge}
use Rattle.spv_graphs.specs.inner.Steps.{Shortens}
use Rattle.spv_graphs.proofs.ways.find_shorter.Given as goal

abbrev pub invariant-loop-edge : goal.invariant-loop-edge
invariant-loop-edge l = (k : ℕ) (e : Edge) → k < l.edge-index → slice_get l.edges k ≡ Some e → ¬ (Shortens l.closed l.steps e)
