use Rattle.std.proofs.Common.{◌≡◌, take}
use Rattle.spv_views.proofs.beginning.words_before.Given as goal

abbrev pub invariant-loop-at : goal.invariant-loop-at
invariant-loop-at l = l.draft ≡ take l.at l.image
