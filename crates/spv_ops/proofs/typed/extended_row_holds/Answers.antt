use Rattle.std.proofs.Common.{◌∙◌, ◌↔◌, ℕ, Option, true, refl, inl, ap, subst}
use Rattle.std.specs.Prelude.{IsTrue}
use Rattle.spv_module.specs.Module.{plain_inst, plain_operands}
use Rattle.spv_type_kinds.specs.Operands.{result_type_in}
use Rattle.spv_conditions.specs.Further.{MayStand}
use Rattle.spv_ops.proofs.CommonRows.{extended_typed}
use Rattle.spv_ops.proofs.typed.extended_row_holds.Goals as goal

pub returns : goal.returns
returns c =
    extended_typed c.args.definitions.now c.args.number (plain_inst c.args.inst.now) c.may_stand.result
    c.requires.extended
    (subst (λ (r : Option ℕ). IsTrue c.may_stand.result ↔ MayStand c.args.definitions.now c.args.number
    (plain_inst c.args.inst.now) r)
    (c.result_type.ensures ∙ ap result_type_in (ap plain_operands c.as_slice.ensures.value)) c.may_stand.ensures)

pub returns-then-is_in_block : goal.returns-then-is_in_block
returns-then-is_in_block c =
    extended_typed c.args.definitions.now c.args.number (plain_inst c.args.inst.now) true c.requires.extended
    (λ _. inl (c.is_in_block.ensures.0 c.if-is_in_block.true), λ _. refl)
