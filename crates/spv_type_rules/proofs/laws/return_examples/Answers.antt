use Rattle.std.proofs.Common.{refl}
use Rattle.spv_type_rules.proofs.Worked.{of_small, of_returning, no_parameter, no_value, no_return}
use Rattle.spv_type_rules.proofs.laws.return_examples.Goals as goal

pub returns-clause-parameter : goal.returns-clause-parameter
returns-clause-parameter c = (4, of_small, refl)

pub returns-clause-other_parameter : goal.returns-clause-other_parameter
returns-clause-other_parameter c = no_parameter

pub returns-clause-value : goal.returns-clause-value
returns-clause-value c = (4, of_small, refl)

pub returns-clause-no_value : goal.returns-clause-no_value
returns-clause-no_value c = no_value

pub returns-clause-void_return : goal.returns-clause-void_return
returns-clause-void_return c = (1, of_returning, refl)

pub returns-clause-int_return : goal.returns-clause-int_return
returns-clause-int_return c = no_return
