use Rattle.std.proofs.Common.{◌≡◌, ◌≤◌, ◌-◌, false, flat_map, length, take}
use Rattle.spv_rules.specs.Codes.{all_codes}
use Rattle.spv_explain.specs.Json.{code_line}
use Rattle.spv_explain.proofs.rules.all_lines.Given as goal

abbrev pub invariant-loop-code : goal.invariant-loop-code
invariant-loop-code l = record {
  within : l.place ≤ length all_codes;
  told : l.text.items ≡ flat_map (code_line false) (take l.place all_codes);
}

abbrev pub decreases-loop-code : goal.decreases-loop-code
decreases-loop-code l = length all_codes - l.place
