use Rattle.spv_standard_evidence.proofs.Decorating.{import_shown, input_shown}
use Rattle.spv_standard_evidence.proofs.decorations.initialized_evidence.Goals as goal

pub returns-in-Some : goal.returns-in-Some
returns-in-Some c = import_shown c.args.table.now c.args.definitions.now c.args.number c.in-Some.inst
    c.in_ok-inst.field-0 c.in-Some.is c.in_ok-inst.ensures

pub returns-in-None : goal.returns-in-None
returns-in-None c = input_shown c.args.table.now c.args.definitions.now c.args.number c.in_ok-inst.field-0
    c.in-None.is c.in_ok-inst.ensures
