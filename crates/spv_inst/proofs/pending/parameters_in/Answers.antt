use Rattle.std.proofs.Common.{◌∙◌, sym}
use Rattle.spv_inst.proofs.Masks.{parameters_found, parameters_missing}
use Rattle.spv_inst.proofs.pending.parameters_in.Goals as goal

pub returns-in-Some : goal.returns-in-Some
returns-in-Some c = c.parameters.ensures ∙ sym
    (parameters_found c.args.table.now c.args.kind c.args.value c.in-Some.enumerant c.in-Some.ensures)

pub returns-in-None : goal.returns-in-None
returns-in-None c = sym (parameters_missing c.args.table.now c.args.kind c.args.value c.in-None.ensures)
