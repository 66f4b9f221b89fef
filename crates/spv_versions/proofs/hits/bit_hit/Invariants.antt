use Rattle.std.proofs.Common.{◌<◌, ℕ}
use Rattle.spv_versions.specs.inner.Told.{IsBitHit}
use Rattle.spv_versions.proofs.hits.bit_hit.Given as goal

abbrev pub invariant-loop-position : goal.invariant-loop-position
invariant-loop-position l = (q : ℕ) → q < l.position → ¬ (IsBitHit l.missing.lines l.kind l.mask q)
