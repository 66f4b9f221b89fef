use Rattle.std.proofs.Common.{◌≡◌, ◌≤◌, ◌-◌, ◌++◌, drop, length, take}
use Rattle.spv_fault_json.specs.Quiet.{quiet_of}
use Rattle.spv_fault_json.proofs.quiet.quiet_count.Given as goal

abbrev pub invariant-loop-count : goal.invariant-loop-count
invariant-loop-count l = record {
  within : l.count ≤ length l.text;
  quiet : quiet_of l.text ≡ take l.count l.text ++ quiet_of (drop l.count l.text);
}

abbrev pub decreases-loop-count : goal.decreases-loop-count
decreases-loop-count l = length l.text - l.count
