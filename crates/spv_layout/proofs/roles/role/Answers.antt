use Rattle.std.proofs.Common.{◌≡◌, ◌∙◌, ◌<◌, refl, sym, ap, arith, length, map, Some, None, get_or, option_map}
use Rattle.std.specs.Prelude.{slice_get}
use Rattle.std.proofs.lemmas.Option.{slice_get-map, slice_get-get_or}
use Rattle.spv_module.specs.declared.operand.Operand.TheVariants as code
use Rattle.spv_module.specs.Module.{plain_inst, plain_operand}
use Rattle.spv_layout.specs.inner.Row.{plain_row}
use Rattle.spv_layout.proofs.Uses.{role_by}
use Rattle.spv_layout.proofs.roles.role.Goals as goal

pub returns-in-Some-form_at : goal.returns-in-Some-form_at
returns-in-Some-form_at c =
    let xs = c.as_slice-operands.result.now in
    let l : c.args.n < length xs = omega arith in
    let g : slice_get (map plain_operand xs) c.args.n ≡ Some (plain_operand (get_or xs c.args.n (code.OfType 0))) =
    slice_get-map plain_operand xs c.args.n ∙ ap (option_map plain_operand) (slice_get-get_or xs c.args.n (code.OfType 0) l) in
    role_by (plain_inst c.args.inst.now) c.args.n (plain_row c.in-Some.row.now) (map plain_operand xs) (plain_operand (get_or xs c.args.n (code.OfType 0))) (Some c.in-Some-form_at.form) c.role_of.result
    (sym c.in-Some.ensures.row) (ap (map plain_operand) c.as_slice-operands.ensures.value) g (sym c.in-Some-form_at.is ∙ c.form_at.ensures) c.role_of.ensures

pub returns-in-None : goal.returns-in-None
returns-in-None c =
    let xs = c.as_slice-operands.result.now in
    let l : c.args.n < length xs = omega arith in
    let g : slice_get (map plain_operand xs) c.args.n ≡ Some (plain_operand (get_or xs c.args.n (code.OfType 0))) =
    slice_get-map plain_operand xs c.args.n ∙ ap (option_map plain_operand) (slice_get-get_or xs c.args.n (code.OfType 0) l) in
    role_by (plain_inst c.args.inst.now) c.args.n (plain_row c.in-Some.row.now) (map plain_operand xs) (plain_operand (get_or xs c.args.n (code.OfType 0))) None None
    (sym c.in-Some.ensures.row) (ap (map plain_operand) c.as_slice-operands.ensures.value) g (sym c.in-None.is ∙ c.form_at.ensures) refl
