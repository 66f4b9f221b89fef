use Rattle.std.proofs.Common.{◌≡◌, take, true}
use Rattle.std.specs.List.{list_all}
use Rattle.spv_lines.specs.Digits.{is_digit, value}
use Rattle.spv_lines.proofs.Reader.{SoFar}
use Rattle.spv_lines.proofs.number.read_long.Given as goal

abbrev pub invariant-loop-octet : goal.invariant-loop-octet
invariant-loop-octet l = record {
  digits : list_all is_digit (take l.octet-index l.text) ≡ true;
  number : SoFar l.number (value (take l.octet-index l.text));
}
