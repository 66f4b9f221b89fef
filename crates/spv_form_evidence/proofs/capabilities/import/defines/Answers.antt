use Rattle.spv_form_evidence.proofs.lemmas.capabilities.Importing.{defined_some, defined_none}
use Rattle.spv_form_evidence.proofs.capabilities.import.defines.Goals as goal

pub returns-in-Some : goal.returns-in-Some
returns-in-Some c = defined_some c.args.survey.now.insts c.args.id c.args.number c.in-Some.own c.in-Some.ensures

pub returns-in-None : goal.returns-in-None
returns-in-None c = defined_none c.args.survey.now.insts c.args.id c.args.number c.in-None.ensures
