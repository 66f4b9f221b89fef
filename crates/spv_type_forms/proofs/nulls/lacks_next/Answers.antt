use Rattle.std.proofs.Common.{◌≡◌, ◌∙◌, Some, refl, sym, length}
use Rattle.spv_module.specs.Module.{plain_operands}
use Rattle.spv_type_forms.specs.declared.form.Form.TheVariants as form
use Rattle.spv_type_forms.specs.Form.{form_of}
use Rattle.spv_type_forms.specs.Parts.{members_of}
use Rattle.spv_type_forms.proofs.Lacking.{of_object, of_array, of_struct}
use Rattle.spv_type_forms.proofs.nulls.lacks_next.Goals as goal

pub returns-in-Some-Object : goal.returns-in-Some-Object
returns-in-Some-Object c = λ one.
    let o = c.in-Some-Object.object in
    let f : form_of c.args.definitions.now c.args.t ≡ Some (form.Object o) = cc in
    let d = of_object c.args.definitions.now c.args.t o f in
    (λ y. d.0 (sym c.lacks_null.ensures ∙ y), λ l. c.lacks_null.ensures ∙ d.1 l)

pub returns-in-Some-Array : goal.returns-in-Some-Array
returns-in-Some-Array c = λ one.
    let e = c.in-Some-Array.element in
    let l = c.in-Some-Array.field-0-1 in
    let f : form_of c.args.definitions.now c.args.t ≡ Some (form.Array e l) = cc in
    let d = of_array c.args.definitions.now c.args.t (length c.args.lacks.now) e l one f in
    (λ y. d.0 (c.lacks_before.ensures.0 y), λ h. c.lacks_before.ensures.1 (d.1 h))

pub returns-in-Some : goal.returns-in-Some
returns-in-Some c = λ one.
    let ms = plain_operands c.in-Some.members.now in
    let f : form_of c.args.definitions.now c.args.t ≡ Some form.Struct = cc in
    let m : members_of c.args.definitions.now c.args.t ≡ Some ms = sym c.members.ensures ∙ rw c.in-Some.is refl in
    let d = of_struct c.args.definitions.now c.args.t (length c.args.lacks.now) ms one f m in
    (λ y. d.0 (c.one_lacks.ensures.0 y), λ h. c.one_lacks.ensures.1 (d.1 h))
