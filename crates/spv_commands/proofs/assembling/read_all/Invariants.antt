use Rattle.std.proofs.Common.{length, ◌-◌}
use Rattle.spv_commands.proofs.assembling.read_all.Given as goal
use Rattle.spv_commands.proofs.Assemblings.{ReadSoFar}

abbrev pub invariant-loop-block : goal.invariant-loop-block
invariant-loop-block g l = ReadSoFar g.R.Source.remaining g.R.Source.failures l.initial.r l.r l.bytes.items

abbrev pub decreases-loop-block : goal.decreases-loop-block
decreases-loop-block g l = 18446744073709551616 - length l.bytes.items
