use Rattle.std.proofs.Common.{◌<◌, ◌-◌, ℕ, get_or}
use Rattle.spv_kernel_operands.proofs.switch.has_equal.Given as goal

abbrev pub invariant-loop-at : goal.invariant-loop-at
invariant-loop-at l = (k : ℕ) → 0 < k → k < l.at → get_or l.literals (k - 1) 0 < get_or l.literals k 0
