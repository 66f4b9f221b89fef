use Rattle.std.proofs.Common.{◌≡◌, ◌≤◌, ◌<◌, ℕ, Some}
use Rattle.std.specs.Prelude.{slice_get}
use Rattle.spv_graphs.specs.declared.queries.Query.{Query}
use Rattle.spv_graphs.proofs.queries.are_in_order.Given as goal

abbrev pub invariant-loop-at : goal.invariant-loop-at
invariant-loop-at l = (j k : ℕ) (a b : Query) → j ≤ k → k < l.at → slice_get l.queries j ≡ Some a → slice_get l.queries k ≡ Some b → a.step ≤ b.step
