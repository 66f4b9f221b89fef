use Rattle.std.proofs.Common.{length, ◌-◌}
use Rattle.spv_words.proofs.reading.read_octets.Given as goal
use Rattle.spv_words.proofs.Gathered.{SoFar}

abbrev pub invariant-loop-block : goal.invariant-loop-block
invariant-loop-block g l = SoFar g.R.Source.remaining g.R.Source.failures l.initial.r l.r l.bytes.items

abbrev pub decreases-loop-block : goal.decreases-loop-block
decreases-loop-block g l = 16777218 - length l.bytes.items
