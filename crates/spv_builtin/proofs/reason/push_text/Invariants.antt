use Rattle.std.proofs.Common.{◌≡◌, ◌++◌, drop}
use Rattle.std.specs.Prelude.{flat_map}
use Rattle.spv_grammar.specs.Reason.{octet_shown}
use Rattle.spv_builtin.proofs.reason.push_text.Given as goal

abbrev pub invariant-loop-octet : goal.invariant-loop-octet
invariant-loop-octet l =
    l.out.items ++ flat_map octet_shown (drop l.octet-index l.text) ≡ l.initial.out.items ++ flat_map octet_shown l.text
