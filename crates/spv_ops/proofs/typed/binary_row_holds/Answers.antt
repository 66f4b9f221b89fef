use Rattle.std.proofs.Common.{sym, ap, ◌∙◌}
use Rattle.spv_module.specs.Module.{plain_inst, plain_operands}
use Rattle.spv_ops.proofs.CommonRows.{binary_typed}
use Rattle.spv_ops.specs.inner.Wide.{binary_of}
use Rattle.spv_ops.proofs.Rows.{uncopied_first, binary_uncopied}
use Rattle.spv_ops.proofs.typed.binary_row_holds.Goals as goal

pub returns-in-Some : goal.returns-in-Some
returns-in-Some c =
    binary_typed c.args.definitions.now c.args.number
    (plain_inst c.args.inst.now) c.args.sort c.in-Some.ids c.binary_holds.result
    (plain_operands c.as_slice.result.now) (ap plain_operands (sym c.as_slice.ensures.value))
    c.requires.sort
    (sym c.binary_in.ensures ∙ c.in-Some.is) c.binary_holds.ensures

pub returns-in-None : goal.returns-in-None
returns-in-None c =
    let n = (plain_inst c.args.inst.now).opcode in
    let u = uncopied_first n (binary_of c.args.sort) c.requires.sort (binary_uncopied c.args.sort) in
    (c.row_holds.ensures.sound, c.row_holds.ensures.complete u)
