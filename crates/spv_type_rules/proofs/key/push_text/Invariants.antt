use Rattle.std.proofs.Common.{◌≡◌, ◌+◌, ◌++◌, map, take}
use Rattle.spv_type_rules.proofs.key.push_text.Given as goal

abbrev pub invariant-loop-octet : goal.invariant-loop-octet
invariant-loop-octet l = l.key.items ≡ l.fn.key.items ++ map (λ b. b + 1) (take l.octet-index l.octet-items)
