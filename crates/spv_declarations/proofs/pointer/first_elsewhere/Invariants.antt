use Rattle.std.proofs.Common.{ℕ, ◌<◌}
use Rattle.spv_declarations.specs.Declarations.{IsForwardElsewhere}
use Rattle.spv_declarations.proofs.pointer.first_elsewhere.Given as goal

abbrev pub invariant-loop-number : goal.invariant-loop-number
invariant-loop-number l = (k : ℕ) → k < l.number → ¬ (IsForwardElsewhere l.definitions k)
