use Rattle.std.proofs.Common.{◌≡◌, ◌≤◌, ◌++◌, ◌-◌, length, take, drop}
use Rattle.spv_views.specs.text_fault.Lines.{first_of}
use Rattle.spv_views.proofs.text_fault.cut.end_of_first.Given as goal

abbrev pub invariant-loop-at : goal.invariant-loop-at
invariant-loop-at l =
    (l.at ≤ length l.octets) × (first_of 200 l.octets ≡ take l.at l.octets ++ first_of l.left (drop l.at l.octets))

abbrev pub decreases-loop-at : goal.decreases-loop-at
decreases-loop-at l = length l.octets - l.at
