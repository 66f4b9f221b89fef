use Rattle.spv_fault_json.proofs.Worked.{bound_told, earlier_told, not_text_told, operand_told}
use Rattle.spv_fault_json.proofs.Worked.{types_told}
use Rattle.spv_fault_json.proofs.laws.member_examples.Goals as goal

pub returns-clause-bound : goal.returns-clause-bound
returns-clause-bound c = bound_told

pub returns-clause-not_text : goal.returns-clause-not_text
returns-clause-not_text c = not_text_told

pub returns-clause-earlier : goal.returns-clause-earlier
returns-clause-earlier c = earlier_told

pub returns-clause-operand : goal.returns-clause-operand
returns-clause-operand c = operand_told

pub returns-clause-types : goal.returns-clause-types
returns-clause-types c = types_told
