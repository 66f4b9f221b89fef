use Rattle.spv_module.specs.Module.{plain_inst}
use Rattle.spv_form_evidence.proofs.lemmas.capabilities.Importing.{import_told}
use Rattle.spv_form_evidence.proofs.capabilities.import.imports.Goals as goal

pub returns-in-Some : goal.returns-in-Some
returns-in-Some c = import_told c.args.survey.now.insts c.args.linkage
    (plain_inst c.args.inst.now) c.args.number c.in-Some.id c.defines.result c.in-Some.ensures c.defines.ensures
