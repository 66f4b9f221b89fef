use Rattle.spv_limits.proofs.Worked.{deep_one, deep_two}
use Rattle.spv_limits.proofs.laws.depth_examples.Goals as goal

pub returns-clause-alone : goal.returns-clause-alone
returns-clause-alone c = deep_one

pub returns-clause-two : goal.returns-clause-two
returns-clause-two c = deep_two
