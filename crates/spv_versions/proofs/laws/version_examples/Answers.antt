use Rattle.spv_versions.proofs.Worked.{declared_there, missing_first, not_declared, not_missing}
use Rattle.spv_versions.proofs.laws.version_examples.Goals as goal

pub returns-clause-declared : goal.returns-clause-declared
returns-clause-declared c = declared_there

pub returns-clause-not_declared : goal.returns-clause-not_declared
returns-clause-not_declared c = not_declared

pub returns-clause-there : goal.returns-clause-there
returns-clause-there c = not_missing

pub returns-clause-missing : goal.returns-clause-missing
returns-clause-missing c = missing_first
