use Rattle.spv_explain.proofs.Worked.{string_not_shown, string_not_spelled, string_shown, string_spelled}
use Rattle.spv_explain.proofs.laws.explained_examples.Goals as goal

pub returns-clause-shown : goal.returns-clause-shown
returns-clause-shown c = λ m. string_shown

pub returns-clause-not_shown : goal.returns-clause-not_shown
returns-clause-not_shown c = λ m. string_not_shown

pub returns-clause-spelled : goal.returns-clause-spelled
returns-clause-spelled c = string_spelled

pub returns-clause-not_spelled : goal.returns-clause-not_spelled
returns-clause-not_spelled c = string_not_spelled
