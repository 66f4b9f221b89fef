use Rattle.std.proofs.Common.{◌≡◌, ℕ, ◌<◌, true, get_or}
use Rattle.spv_annotate.specs.Html.{is_marked}
use Rattle.spv_annotate.proofs.html.first_mark.Given as goal

abbrev pub invariant-loop-at : goal.invariant-loop-at
invariant-loop-at l = (k : ℕ) → k < l.at → is_marked (get_or l.bytes k 0) ≡ true → ⊥
