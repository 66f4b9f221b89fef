use Rattle.std.proofs.Common.{◌≡◌, ◌<◌, ℕ, length}
use Rattle.spv_versions.proofs.Floors.{ArePlaced}
use Rattle.spv_versions.proofs.late.floors.Given as goal

abbrev pub invariant-loop-place : goal.invariant-loop-place
invariant-loop-place l = (length l.floors ≡ 64)
    × ((p : ℕ) → p < l.place → ArePlaced l.numbers.numbers l.missing.least l.floors p)
