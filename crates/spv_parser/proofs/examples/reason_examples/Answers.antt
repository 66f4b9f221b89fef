use Rattle.spv_parser.proofs.Reasons as worked
use Rattle.spv_parser.proofs.examples.reason_examples.Goals as goal

pub returns-clause-header : goal.returns-clause-header
returns-clause-header c = worked.header_fails

pub returns-clause-equals : goal.returns-clause-equals
returns-clause-equals c = worked.equals_fails

pub returns-clause-name : goal.returns-clause-name
returns-clause-name c = worked.name_fails

pub returns-clause-result : goal.returns-clause-result
returns-clause-result c = worked.result_fails

pub returns-clause-operand : goal.returns-clause-operand
returns-clause-operand c = worked.operand_fails

pub returns-clause-end : goal.returns-clause-end
returns-clause-end c = worked.end_fails

pub returns-clause-large : goal.returns-clause-large
returns-clause-large c = worked.large_fails

pub returns-clause-not_operand : goal.returns-clause-not_operand
returns-clause-not_operand c = worked.not_operand

pub returns-clause-memory : goal.returns-clause-memory
returns-clause-memory c = worked.no_memory
