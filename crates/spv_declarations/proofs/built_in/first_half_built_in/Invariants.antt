use Rattle.std.proofs.Common.{ℕ, ◌<◌}
use Rattle.spv_declarations.specs.Decorated.{IsHalfBuiltIn}
use Rattle.spv_declarations.proofs.built_in.first_half_built_in.Given as goal

abbrev pub invariant-loop-number : goal.invariant-loop-number
invariant-loop-number l = (k : ℕ) → k < l.number → ¬ (IsHalfBuiltIn l.definitions k)
