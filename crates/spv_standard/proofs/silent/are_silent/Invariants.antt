use Rattle.std.proofs.Common.{◌≡◌, drop}
use Rattle.spv_standard.specs.inner.Silent.{are_silent}
use Rattle.spv_standard.proofs.silent.are_silent.Given as goal

abbrev pub invariant-loop-form : goal.invariant-loop-form
invariant-loop-form l = are_silent (drop l.form-index l.forms) ≡ are_silent l.forms
