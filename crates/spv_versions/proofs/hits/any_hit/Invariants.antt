use Rattle.std.proofs.Common.{◌<◌, ℕ}
use Rattle.spv_versions.specs.inner.Told.{IsHitAt}
use Rattle.spv_versions.proofs.hits.any_hit.Given as goal

abbrev pub invariant-loop-place : goal.invariant-loop-place
invariant-loop-place l =
    (p : ℕ) → p < l.place → ¬ (IsHitAt l.missing.lines l.numbers.numbers l.number l.is_mask l.value p)
