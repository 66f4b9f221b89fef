use Rattle.spv_form_evidence.proofs.lemmas.extended.Worked as worked
use Rattle.spv_form_evidence.proofs.extended.laws.evidence_examples.Goals as goal

pub returns-clause-load : goal.returns-clause-load
returns-clause-load c = worked.load

pub returns-clause-not_so_few : goal.returns-clause-not_so_few
returns-clause-not_so_few c = worked.not_so_few

pub returns-clause-printf : goal.returns-clause-printf
returns-clause-printf c = worked.printf

pub returns-clause-no_number : goal.returns-clause-no_number
returns-clause-no_number c = worked.no_number

pub returns-clause-sound : goal.returns-clause-sound
returns-clause-sound c = worked.sound
