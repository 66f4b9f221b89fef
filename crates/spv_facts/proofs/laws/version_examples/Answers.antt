use Rattle.spv_facts.proofs.Told.{extensions_told, no_extensions_told, no_version_told, not_number_told, since_told}
use Rattle.spv_facts.proofs.Told.{written_told}
use Rattle.spv_facts.proofs.laws.version_examples.Goals as goal

pub returns-clause-since : goal.returns-clause-since
returns-clause-since c = since_told

pub returns-clause-extensions : goal.returns-clause-extensions
returns-clause-extensions c = extensions_told

pub returns-clause-no_version : goal.returns-clause-no_version
returns-clause-no_version c = no_version_told

pub returns-clause-no_extensions : goal.returns-clause-no_extensions
returns-clause-no_extensions c = no_extensions_told

pub returns-clause-written : goal.returns-clause-written
returns-clause-written c = written_told

pub returns-clause-not_number : goal.returns-clause-not_number
returns-clause-not_number c = not_number_told
