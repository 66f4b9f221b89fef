use Rattle.std.proofs.Common.{◌≡◌, ◌≤◌, ◌-◌, ◌++◌, flat_map, length, string_bytes, take}
use Rattle.spv_rules.specs.Codes.{all_codes, code_line}
use Rattle.spv_rules.proofs.rules.push_codes.Given as goal

abbrev pub invariant-loop-code : goal.invariant-loop-code
invariant-loop-code l = record {
  within : l.place ≤ length all_codes;
  told : string_bytes l.out ≡ string_bytes l.initial.out ++ flat_map code_line (take l.place all_codes);
}

abbrev pub decreases-loop-code : goal.decreases-loop-code
decreases-loop-code l = length all_codes - l.place
