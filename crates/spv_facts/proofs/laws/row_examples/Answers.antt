use Rattle.spv_facts.proofs.Told.{bare_told, load_told, not_other_told, phi_told, unknown_told}
use Rattle.spv_facts.proofs.laws.row_examples.Goals as goal

pub returns-clause-load : goal.returns-clause-load
returns-clause-load c = load_told

pub returns-clause-phi : goal.returns-clause-phi
returns-clause-phi c = phi_told

pub returns-clause-bare : goal.returns-clause-bare
returns-clause-bare c = bare_told

pub returns-clause-unknown : goal.returns-clause-unknown
returns-clause-unknown c = unknown_told

pub returns-clause-not_other : goal.returns-clause-not_other
returns-clause-not_other c = not_other_told
