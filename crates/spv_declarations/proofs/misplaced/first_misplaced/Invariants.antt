use Rattle.std.proofs.Common.{ℕ, ◌<◌}
use Rattle.spv_declarations.specs.Decorated.{IsMisplaced}
use Rattle.spv_declarations.proofs.misplaced.first_misplaced.Given as goal

abbrev pub invariant-loop-number : goal.invariant-loop-number
invariant-loop-number l = (k : ℕ) → k < l.number → ¬ (IsMisplaced l.definitions k)
