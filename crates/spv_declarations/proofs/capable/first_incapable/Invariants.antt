use Rattle.std.proofs.Common.{ℕ, ◌<◌}
use Rattle.spv_declarations.specs.Declarations.{IsIncapable}
use Rattle.spv_declarations.proofs.capable.first_incapable.Given as goal

abbrev pub invariant-loop-number : goal.invariant-loop-number
invariant-loop-number l = (k : ℕ) → k < l.number → ¬ (IsIncapable l.capabilities.table l.capabilities.insts k)
