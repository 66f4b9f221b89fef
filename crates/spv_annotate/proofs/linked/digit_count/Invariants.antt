use Rattle.std.proofs.Common.{◌≡◌, ◌+◌, drop}
use Rattle.std.specs.List.{prefix_len}
use Rattle.spv_lines.specs.Digits.{is_digit}
use Rattle.spv_annotate.proofs.linked.digit_count.Given as goal

abbrev pub invariant-loop-at : goal.invariant-loop-at
invariant-loop-at l = prefix_len is_digit l.text ≡ l.at + prefix_len is_digit (drop l.at l.text)
