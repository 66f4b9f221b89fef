use Rattle.spv_explain.proofs.Worked.{classes_told, earlier_told, escape_told, kept_told, late_told, names_told}
use Rattle.spv_explain.proofs.Worked.{not_later_told, operand_told}
use Rattle.spv_explain.proofs.laws.line_examples.Goals as goal

pub returns-clause-earlier : goal.returns-clause-earlier
returns-clause-earlier c = earlier_told

pub returns-clause-not_later : goal.returns-clause-not_later
returns-clause-not_later c = not_later_told

pub returns-clause-operand : goal.returns-clause-operand
returns-clause-operand c = operand_told

pub returns-clause-classes : goal.returns-clause-classes
returns-clause-classes c = classes_told

pub returns-clause-names : goal.returns-clause-names
returns-clause-names c = names_told

pub returns-clause-late : goal.returns-clause-late
returns-clause-late c = late_told

pub returns-clause-kept : goal.returns-clause-kept
returns-clause-kept c = kept_told

pub returns-clause-escaped : goal.returns-clause-escaped
returns-clause-escaped c = escape_told
