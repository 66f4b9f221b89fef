use Rattle.std.proofs.Common.{◌≡◌, ◌<◌, ℕ, Some}
use Rattle.std.specs.Prelude.{slice_get}
use Rattle.spv_interfaces.specs.inner.Lacking.{IsLacking}
use Rattle.spv_interfaces.proofs.lacking.first_place.Given as goal

abbrev pub invariant-loop-at : goal.invariant-loop-at
invariant-loop-at l = (k n : ℕ) → k < l.at → slice_get l.entries k ≡ Some n
    → ¬ (IsLacking l.definitions l.reached l.named n)
