use Rattle.std.proofs.Common.{◌≡◌, ◌∙◌, refl, sym, subst}
use Rattle.spv_module.specs.Module.{plain_inst}
use Rattle.spv_module.specs.declared.opcode.TheConstants as opcode
use Rattle.spv_ops.specs.declared.table.Places.TheVariants as places
use Rattle.spv_ops.specs.Table.{lines, places_of}
use Rattle.spv_ops.specs.inner.Wide.{IsWidePlace}
use Rattle.spv_ops.proofs.Judged.{free_holds}
use Rattle.spv_ops.proofs.Rows.{places_first}
use Rattle.spv_ops.proofs.typed.inst_holds.Goals as goal

pub wide_row_holds-requires-clause-wide : goal.wide_row_holds-requires-clause-wide
unfolding lines
wide_row_holds-requires-clause-wide c =
    subst IsWidePlace (sym (places_first (plain_inst c.args.inst.now).opcode opcode.VARIABLE
    (sym c.first_opcode.ensures ∙ c.in-59.is))) tt

pub wide_row_holds-requires-in-65-clause-wide : goal.wide_row_holds-requires-in-65-clause-wide
unfolding lines
wide_row_holds-requires-in-65-clause-wide c =
    subst IsWidePlace (sym (places_first (plain_inst c.args.inst.now).opcode opcode.ACCESS_CHAIN
    (sym c.first_opcode.ensures ∙ c.in-65.is))) tt

pub wide_row_holds-requires-in-67-clause-wide : goal.wide_row_holds-requires-in-67-clause-wide
unfolding lines
wide_row_holds-requires-in-67-clause-wide c =
    subst IsWidePlace (sym (places_first (plain_inst c.args.inst.now).opcode opcode.PTR_ACCESS_CHAIN
    (sym c.first_opcode.ensures ∙ c.in-67.is))) tt

pub returns-in-0-clause-sound : goal.returns-in-0-clause-sound
unfolding lines
returns-in-0-clause-sound c = λ _.
    let i = plain_inst c.args.inst.now in
    let free : places_of i.opcode ≡ places.Free = places_first i.opcode 0 (sym c.first_opcode.ensures ∙ c.in-0.is) in
    free_holds c.args.definitions.now c.args.number i free

pub returns-in-0-clause-complete : goal.returns-in-0-clause-complete
returns-in-0-clause-complete c = λ _ _. refl
