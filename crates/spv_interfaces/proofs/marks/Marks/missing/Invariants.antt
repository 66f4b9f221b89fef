use Rattle.std.proofs.Common.{◌<◌, ◌↔◌, ℕ}
use Rattle.spv_interfaces.specs.inner.Marks.{HasBit, IsMissing}
use Rattle.spv_interfaces.proofs.marks.Marks.missing.Given as goal

abbrev pub invariant-loop-found : goal.invariant-loop-found
invariant-loop-found l = (k : ℕ) → k < 64
    → HasBit l.missing k ↔ IsMissing l.self.reached.items l.self.named.items l.uses l.found-index k
