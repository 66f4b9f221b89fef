use Rattle.std.proofs.Common.{◌≡◌, drop}
use Rattle.spv_layout.specs.inner.Unkinded.{are_unkinded}
use Rattle.spv_layout.proofs.unkinded.are_unkinded.Given as goal

abbrev pub invariant-loop-form : goal.invariant-loop-form
invariant-loop-form l = are_unkinded (drop l.form-index l.forms) ≡ are_unkinded l.forms
