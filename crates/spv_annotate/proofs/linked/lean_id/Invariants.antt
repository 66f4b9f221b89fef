use Rattle.std.proofs.Common.{◌≡◌, ◌<◌, take, true}
use Rattle.std.specs.List.{list_all}
use Rattle.spv_lines.specs.Digits.{is_digit, value}
use Rattle.spv_annotate.proofs.linked.lean_id.Given as goal

abbrev pub invariant-loop-count : goal.invariant-loop-count
invariant-loop-count l = record {
  digits : list_all is_digit (take l.count l.text) ≡ true;
  number : l.id ≡ value (take l.count l.text);
  small : l.id < 4294967296;
}
