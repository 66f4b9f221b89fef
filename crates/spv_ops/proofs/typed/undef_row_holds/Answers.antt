use Rattle.std.proofs.Common.{◌∙◌, ◌↔◌, ℕ, Option, ap, subst}
use Rattle.std.specs.Prelude.{IsTrue, IsSomeAnd}
use Rattle.spv_module.specs.Module.{plain_operands, plain_inst}
use Rattle.spv_type_kinds.specs.Operands.{result_type_in}
use Rattle.spv_type_forms.specs.Types.{IsData}
use Rattle.spv_ops.proofs.CommonRows.{undef_typed}
use Rattle.spv_ops.proofs.typed.undef_row_holds.Goals as goal

pub returns : goal.returns
returns c =
    undef_typed c.args.definitions.now c.args.number (plain_inst c.args.inst.now) c.is_of_data.result
    c.requires.undef
    (subst (λ (r : Option ℕ). IsTrue c.is_of_data.result ↔ IsSomeAnd r (IsData c.args.definitions.now))
    (c.result_type.ensures ∙ ap result_type_in (ap plain_operands c.as_slice.ensures.value)) c.is_of_data.ensures)
