use Rattle.spv_type_rules.proofs.Worked.{repeated, not_earlier, function_kept, function_not_kept, parameter_kept}
use Rattle.spv_type_rules.proofs.Worked.{parameter_not_kept, return_kept, return_not_kept}
use Rattle.spv_type_rules.proofs.laws.keep_examples.Goals as goal

pub returns-clause-first : goal.returns-clause-first
returns-clause-first c = not_earlier

pub returns-clause-again : goal.returns-clause-again
returns-clause-again c = λ k. k repeated

pub returns-clause-function : goal.returns-clause-function
returns-clause-function c = function_kept

pub returns-clause-no_function : goal.returns-clause-no_function
returns-clause-no_function c = function_not_kept

pub returns-clause-parameter : goal.returns-clause-parameter
returns-clause-parameter c = parameter_kept

pub returns-clause-other_parameter : goal.returns-clause-other_parameter
returns-clause-other_parameter c = parameter_not_kept

pub returns-clause-returned : goal.returns-clause-returned
returns-clause-returned c = return_kept

pub returns-clause-not_returned : goal.returns-clause-not_returned
returns-clause-not_returned c = return_not_kept
