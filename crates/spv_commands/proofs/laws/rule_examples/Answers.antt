use Rattle.spv_commands.proofs.Worked.{no_object}
use Rattle.spv_commands.proofs.laws.rule_examples.Goals as goal

pub returns-clause-no_object : goal.returns-clause-no_object
returns-clause-no_object c = no_object
