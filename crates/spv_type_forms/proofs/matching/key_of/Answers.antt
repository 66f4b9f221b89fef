use Rattle.std.proofs.Common.{◌≡◌, ◌∙◌, Some, true, sym, ap, length}
use Rattle.std.proofs.lemmas.Result.{IfOk-weaker}
use Rattle.spv_module.specs.Module.{plain_operands}
use Rattle.spv_type_forms.specs.declared.form.Form.TheVariants as form
use Rattle.spv_type_forms.specs.Form.{form_of}
use Rattle.spv_type_forms.specs.Matches.{is_aggregate}
use Rattle.spv_type_forms.proofs.Matched.{array_answered, struct_answered, no_members, no_other_key}
use Rattle.spv_type_forms.proofs.matching.key_of.Goals as goal

pub returns-in-Some : goal.returns-in-Some
returns-in-Some c =
    let is = c.args.definitions.now in
    let cs = c.args.numbers.now in
    let e = c.in-Some.element in
    let l = c.in-Some.length in
    let f : form_of is c.args.t ≡ Some (form.Array e l) = sym c.form-form.ensures ∙ c.in-Some.ensures in
    IfOk-weaker c.array_key.result _ _ (λ o h. array_answered is cs (length cs) c.args.t e l o f h) c.array_key.ensures

pub returns-in-Some-members : goal.returns-in-Some-members
returns-in-Some-members c =
    let is = c.args.definitions.now in
    let cs = c.args.numbers.now in
    let ms = plain_operands c.in-Some-members.members.now in
    let h : is_aggregate c.form-form.result ≡ true = sym c.is_aggregate.ensures ∙ c.if-not-is_aggregate.false in
    let f : form_of is c.args.t ≡ Some form.Struct = sym c.form-form.ensures ∙ c.in-None.ensures h in
    IfOk-weaker c.struct_key.result _ _ (λ o k. struct_answered is cs (length cs) c.args.t ms o f
    (sym c.in-Some-members.ensures) k) c.struct_key.ensures

pub returns-in-None-members : goal.returns-in-None-members
returns-in-None-members c =
    let is = c.args.definitions.now in
    let cs = c.args.numbers.now in
    let h : is_aggregate c.form-form.result ≡ true = sym c.is_aggregate.ensures ∙ c.if-not-is_aggregate.false in
    let f : form_of is c.args.t ≡ Some form.Struct = sym c.form-form.ensures ∙ c.in-None.ensures h in
    no_members is cs (length cs) c.args.t f (sym c.in-None-members.ensures)

pub returns-then-not-is_aggregate : goal.returns-then-not-is_aggregate
returns-then-not-is_aggregate c =
    let is = c.args.definitions.now in
    let cs = c.args.numbers.now in
    no_other_key is cs (length cs) c.args.t
    (ap is_aggregate (sym c.form-form.ensures) ∙ (sym c.is_aggregate.ensures ∙ c.if-not-is_aggregate.true))
