use Rattle.std.proofs.Common.{◌-◌, ◌≤◌, ◌≡◌, ◌++◌, drop, length, take}
use Rattle.spv_lines.specs.Plain.{plain_of}
use Rattle.spv_lines.proofs.plain.first_control.Given as goal

abbrev pub invariant-loop-at : goal.invariant-loop-at
invariant-loop-at l = (l.at ≤ length l.bytes) × (plain_of l.bytes ≡ take l.at l.bytes ++ plain_of (drop l.at l.bytes))

abbrev pub decreases-loop-at : goal.decreases-loop-at
decreases-loop-at l = length l.bytes - l.at
