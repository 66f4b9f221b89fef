use Rattle.std.proofs.Common.{◌≡◌, ◌<◌, ℕ, length}
use Rattle.spv_versions.proofs.Low.{ArePlaced}
use Rattle.spv_versions.proofs.late.listed.Given as goal

abbrev pub invariant-loop-place : goal.invariant-loop-place
invariant-loop-place l = (length l.words ≡ 64)
    × ((p : ℕ) → p < l.place → ArePlaced l.numbers.numbers l.words p)
