use Rattle.std.proofs.Common.{arith}
use Rattle.std.proofs.lemmas.Grind.{common_steps}
use Rattle.spv_views.proofs.text_fault.cut.push_shown.Goals as goal

pub first_characters-front-requires : goal.first_characters-front-requires
first_characters-front-requires c = grind (arith, common_steps)

pub push_plain-requires : goal.push_plain-requires
push_plain-requires c = grind (arith, common_steps)

pub returns-in_err-push_plain : goal.returns-in_err-push_plain
returns-in_err-push_plain c = grind (arith, common_steps)

pub returns-then-front-text : goal.returns-then-front-text
returns-then-front-text c = grind (arith, common_steps)

pub returns : goal.returns
returns c = grind (arith, common_steps)
