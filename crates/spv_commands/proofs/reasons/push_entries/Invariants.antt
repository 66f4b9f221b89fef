use Rattle.std.proofs.Common.{◌-◌}
use Rattle.spv_commands.proofs.reasons.push_entries.Given as goal

abbrev pub decreases-loop-at : goal.decreases-loop-at
decreases-loop-at l = l.end - l.at
