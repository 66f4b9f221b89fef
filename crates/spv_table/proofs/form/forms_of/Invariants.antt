use Rattle.std.proofs.Common.{◌≡◌, map, take}
use Rattle.spv_table.specs.inner.Form.{form_of}
use Rattle.spv_table.proofs.form.forms_of.Given as goal

abbrev pub invariant-loop-sort : goal.invariant-loop-sort
invariant-loop-sort l = l.forms.items ≡ map form_of (take l.sort-index l.sorts)
