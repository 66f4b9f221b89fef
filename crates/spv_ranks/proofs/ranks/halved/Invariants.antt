use Rattle.std.proofs.Common.{◌≤◌, ◌-◌, length}
use Rattle.spv_ranks.proofs.ranks.halved.Given as goal

abbrev pub invariant-halve : goal.invariant-halve
invariant-halve l = l.high ≤ length l.ids

abbrev pub decreases-halve : goal.decreases-halve
decreases-halve l = l.high - l.low
