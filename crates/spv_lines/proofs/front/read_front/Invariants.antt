use Rattle.std.proofs.Common.{◌≡◌, ◌≤◌, ◌-◌, true, length, take}
use Rattle.std.specs.List.{list_all}
use Rattle.spv_lines.specs.Digits.{is_digit, value}
use Rattle.spv_lines.proofs.front.read_front.Given as goal

abbrev pub invariant-loop-at : goal.invariant-loop-at
invariant-loop-at l = record {
  within : l.at ≤ length l.octets;
  digits : list_all is_digit (take l.at l.octets) ≡ true;
  value : value (take l.at l.octets) ≡ l.number;
}

abbrev pub decreases-loop-at : goal.decreases-loop-at
decreases-loop-at l = length l.octets - l.at
