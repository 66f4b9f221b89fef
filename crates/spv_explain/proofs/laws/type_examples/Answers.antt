use Rattle.spv_explain.proofs.WorkedTypes.{by_extended_not_shown, operand_shown, result_not_shown}
use Rattle.spv_explain.proofs.laws.type_examples.Goals as goal

pub returns-clause-shown : goal.returns-clause-shown
returns-clause-shown c = operand_shown

pub returns-clause-not_the_result : goal.returns-clause-not_the_result
returns-clause-not_the_result c = result_not_shown

pub returns-clause-by_extended : goal.returns-clause-by_extended
returns-clause-by_extended c = by_extended_not_shown
