use Rattle.std.proofs.Common.{◌≡◌, Some}
use Rattle.spv_type_forms.specs.declared.form.Form.TheVariants as form
use Rattle.spv_type_forms.specs.Form.{form_of}
use Rattle.spv_type_forms.proofs.Lacking.{nullable_object}
use Rattle.spv_type_forms.proofs.nulls.Nulls.is_nullable.Goals as goal

pub returns-in-Some-Object-clause-answer : goal.returns-in-Some-Object-clause-answer
returns-in-Some-Object-clause-answer c =
    let o = c.in-Some-Object.object in
    let f : form_of c.args.definitions.now c.args.t ≡ Some (form.Object o) = cc in
    nullable_object c.args.definitions.now c.args.t o c.lacks_null.result f c.lacks_null.ensures
