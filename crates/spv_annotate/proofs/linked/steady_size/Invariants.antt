use Rattle.std.proofs.Common.{◌≡◌, ℕ, ◌<◌, true, get_or}
use Rattle.spv_annotate.specs.inner.Linked.{is_steady}
use Rattle.spv_annotate.proofs.linked.steady_size.Given as goal

abbrev pub invariant-loop-at : goal.invariant-loop-at
invariant-loop-at l = (k : ℕ) → k < l.at → is_steady (get_or l.line k 0) ≡ true
