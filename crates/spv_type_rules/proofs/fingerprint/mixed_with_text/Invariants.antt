use Rattle.std.proofs.Common.{◌≡◌, drop}
use Rattle.spv_type_rules.specs.inner.Print.{mixed_with_all}
use Rattle.spv_type_rules.proofs.fingerprint.mixed_with_text.Given as goal

abbrev pub invariant-loop-octet : goal.invariant-loop-octet
invariant-loop-octet l = mixed_with_all l.mixed (drop l.octet-index l.octet-items) ≡ mixed_with_all l.start l.text
