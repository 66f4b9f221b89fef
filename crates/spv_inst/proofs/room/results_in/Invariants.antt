use Rattle.std.proofs.Common.{◌-◌}
use Rattle.spv_inst.proofs.room.results_in.Given as goal

abbrev pub decreases-loop-at : goal.decreases-loop-at
decreases-loop-at l = l.len - l.at
