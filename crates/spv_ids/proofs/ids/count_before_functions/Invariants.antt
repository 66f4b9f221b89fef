use Rattle.std.proofs.Common.{◌≤◌, ◌-◌}
use Rattle.spv_ids.proofs.ids.count_before_functions.Given as goal

abbrev pub invariant-halve : goal.invariant-halve
invariant-halve l = record {
  order : l.low ≤ l.high;
  within : l.high ≤ l.count;
}

abbrev pub decreases-halve : goal.decreases-halve
decreases-halve l = l.high - l.low
