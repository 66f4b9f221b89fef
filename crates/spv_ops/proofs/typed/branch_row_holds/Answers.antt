use Rattle.std.proofs.Common.{sym, ap, ◌∙◌}
use Rattle.spv_module.specs.Module.{plain_inst, plain_operands}
use Rattle.spv_ops.proofs.CommonRows.{branch_typed}
use Rattle.spv_module.specs.declared.opcode.TheConstants as opcode
use Rattle.spv_ops.specs.Table.{lines}
use Rattle.spv_ops.proofs.Rows.{uncopied_first}
use Rattle.spv_ops.proofs.typed.branch_row_holds.Goals as goal

pub returns-in-Some : goal.returns-in-Some
returns-in-Some c =
    branch_typed c.args.definitions.now c.args.number (plain_inst c.args.inst.now) c.in-Some.x c.stands_for_bool.result
    (plain_operands c.as_slice.result.now) (ap plain_operands (sym c.as_slice.ensures.value))
    c.requires.branch
    (sym c.condition_in.ensures ∙ c.in-Some.is) c.stands_for_bool.ensures

pub returns-in-None : goal.returns-in-None
unfolding lines
returns-in-None c =
    let n = (plain_inst c.args.inst.now).opcode in
    let u = uncopied_first n opcode.BRANCH_CONDITIONAL c.requires.branch tt in
    (c.row_holds.ensures.sound, c.row_holds.ensures.complete u)
