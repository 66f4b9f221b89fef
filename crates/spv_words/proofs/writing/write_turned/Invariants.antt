use Rattle.std.proofs.Common.{◌-◌, length}
use Rattle.spv_words.proofs.Written.{TurnedSoFar}
use Rattle.spv_words.proofs.writing.write_turned.Given as goal

abbrev pub invariant-loop-at : goal.invariant-loop-at
invariant-loop-at g l = TurnedSoFar (g.W.Sink.contents l.initial.w) (g.W.Sink.contents l.w) (g.W.Sink.failures l.initial.w) (g.W.Sink.failures l.w) l.bytes l.at

abbrev pub decreases-loop-at : goal.decreases-loop-at
decreases-loop-at g l = length l.bytes - l.at
