use Rattle.std.proofs.Common.{◌≡◌, ◌≢◌, ◌≤◌, ◌<◌, ◌+◌, ◌-◌, ◌++◌, length, take}
use Rattle.std.specs.List.{AllByRecursion}
use Rattle.spv_lines.specs.Operand.{escaped}
use Rattle.spv_printer.proofs.fast_text.copy_plain.Given as goal

abbrev pub invariant-loop-count : goal.invariant-loop-count
invariant-loop-count l = record {
  upto : l.count ≤ length l.octets;
  few : l.count ≤ 65;
  size : length l.buffer ≡ length l.fn.buffer;
  some : AllByRecursion (λ b. b ≢ 0) (take l.count l.octets);
  ascii : AllByRecursion (λ b. b < 128) (take l.count l.octets);
  plain : escaped (take l.count l.octets) ≡ take l.count l.octets;
  text : take (l.at + l.count) l.buffer ≡ take l.at l.fn.buffer ++ take l.count l.octets;
}

abbrev pub decreases-loop-count : goal.decreases-loop-count
decreases-loop-count l = length l.octets - l.count
