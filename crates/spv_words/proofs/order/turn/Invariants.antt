use Rattle.std.proofs.Common.{◌-◌, length}
use Rattle.spv_words.proofs.order.turn.Given as goal
use Rattle.spv_words.proofs.Turning.{Turned}

abbrev pub invariant-loop-at : goal.invariant-loop-at
invariant-loop-at l = Turned l.initial.bytes l.bytes l.at

abbrev pub decreases-loop-at : goal.decreases-loop-at
decreases-loop-at l = length l.initial.bytes - l.at
