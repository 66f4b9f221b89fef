use Rattle.std.proofs.Common.{refl}
use Rattle.spv_table.specs.Example.{empty_table}
use Rattle.spv_commands.proofs.Worked.{empty_given, never_unread, no_third, nothing_refuses, rules_unrefused, show_answers}
use Rattle.spv_commands.proofs.laws.answer_examples.Goals as goal

pub returns-clause-answers : goal.returns-clause-answers
returns-clause-answers c =
    λ g f. show_answers g f empty_table (empty_given c.table_examples.ensures.gives) c.examples.ensures.size_first

pub returns-clause-not_answered : goal.returns-clause-not_answered
returns-clause-not_answered c = λ command text file out made err. no_third command text file out made err 3 refl

pub returns-clause-refusal : goal.returns-clause-refusal
returns-clause-refusal c = nothing_refuses

pub returns-clause-no_refusal : goal.returns-clause-no_refusal
returns-clause-no_refusal c = λ command file. never_unread command file _ refl

pub returns-clause-rules_unrefused : goal.returns-clause-rules_unrefused
returns-clause-rules_unrefused c = λ code json file. rules_unrefused code json file _ refl
