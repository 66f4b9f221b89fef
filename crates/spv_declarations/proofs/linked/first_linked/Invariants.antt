use Rattle.std.proofs.Common.{ℕ, ◌<◌}
use Rattle.spv_declarations.specs.Decorated.{IsLinkedEntry}
use Rattle.spv_declarations.proofs.linked.first_linked.Given as goal

abbrev pub invariant-loop-number : goal.invariant-loop-number
invariant-loop-number l = (k : ℕ) → k < l.number → ¬ (IsLinkedEntry l.definitions k)
