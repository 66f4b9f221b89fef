use Rattle.spv_lines.proofs.Worked.{empty_fails, name_fails, equals_fails, missing_fails, large_fails}
use Rattle.spv_lines.proofs.examples.failure_examples.Goals as goal

pub returns-clause-empty : goal.returns-clause-empty
returns-clause-empty c = empty_fails

pub returns-clause-name : goal.returns-clause-name
returns-clause-name c = name_fails

pub returns-clause-equals : goal.returns-clause-equals
returns-clause-equals c = equals_fails

pub returns-clause-missing : goal.returns-clause-missing
returns-clause-missing c = missing_fails

pub returns-clause-large : goal.returns-clause-large
returns-clause-large c = large_fails
