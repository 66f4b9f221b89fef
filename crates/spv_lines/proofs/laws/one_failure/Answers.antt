use Rattle.spv_lines.proofs.Failing.{failure_same, read_or_failed}
use Rattle.spv_lines.proofs.laws.one_failure.Goals as goal

pub returns-clause-once : goal.returns-clause-once
returns-clause-once c = failure_same

pub returns-clause-never : goal.returns-clause-never
returns-clause-never c = read_or_failed
