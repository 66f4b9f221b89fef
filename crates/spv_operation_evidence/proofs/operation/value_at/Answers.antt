use Rattle.std.proofs.Common.{◌≡◌, true, false, sym, ap, ◌∙◌}
use Rattle.std.specs.Prelude.{option_and_then, slice_get}
use Rattle.spv_module.specs.Module.{plain_inst, plain_operands}
use Rattle.spv_type_forms.specs.Parts.{id_in}
use Rattle.spv_operation_evidence.specs.inner.Values.{is_value}
use Rattle.spv_operation_evidence.proofs.lemmas.Valued.{value_told, no_value_told}
use Rattle.spv_operation_evidence.proofs.operation.value_at.Goals as goal

pub returns-then-is_value : goal.returns-then-is_value
returns-then-is_value c = λ G fits.
    let i = plain_inst c.args.inst.now in
    let on : is_value c.role.result ≡ true = sym c.is_value.ensures ∙ c.if-is_value.true in
    let x : c.id_at.result ≡ option_and_then id_in (slice_get i.operands c.args.k) = c.id_at.ensures
    ∙ ap (λ os. option_and_then id_in (slice_get (plain_operands os) c.args.k)) c.as_slice.ensures.value in
    value_told G i c.args.k c.role.result c.id_at.result (c.role.ensures G fits) on x

pub returns-else-is_value : goal.returns-else-is_value
returns-else-is_value c = λ G fits.
    let off : is_value c.role.result ≡ false = sym c.is_value.ensures ∙ c.if-is_value.false in
    no_value_told G (plain_inst c.args.inst.now) c.args.k c.role.result (c.role.ensures G fits) off
