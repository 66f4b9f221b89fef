use Rattle.std.proofs.Common.{◌≡◌, ◌≤◌, ◌-◌, ◌++◌, drop, length}
use Rattle.spv_fault_json.specs.Quiet.{quiet_of}
use Rattle.spv_fault_json.proofs.quiet.quieted.Given as goal

abbrev pub invariant-loop-at : goal.invariant-loop-at
invariant-loop-at l = record {
  within : l.at ≤ length l.text.items;
  told : l.out.items ++ quiet_of (drop l.at l.text.items) ≡ quiet_of l.text.items;
}

abbrev pub decreases-loop-at : goal.decreases-loop-at
decreases-loop-at l = length l.text.items - l.at
