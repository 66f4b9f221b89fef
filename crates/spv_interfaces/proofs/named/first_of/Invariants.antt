use Rattle.std.proofs.Common.{◌<◌, ℕ}
use Rattle.spv_interfaces.specs.inner.Marks.{HasBit}
use Rattle.spv_interfaces.proofs.named.first_of.Given as goal

abbrev pub invariant-loop-k : goal.invariant-loop-k
invariant-loop-k l = (j : ℕ) → j < l.k → ¬ (HasBit l.bits j)
