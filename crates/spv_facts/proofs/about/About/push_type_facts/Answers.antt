use Rattle.std.proofs.Common.{arith}
use Rattle.std.proofs.lemmas.Grind.{common_steps}
use Rattle.spv_facts.proofs.about.About.push_type_facts.Goals as goal

pub returns-in_ok-push_compared-in-Condition : goal.returns-in_ok-push_compared-in-Condition
returns-in_ok-push_compared-in-Condition c = grind (arith, common_steps)

pub returns-in_ok-push_asked-in-Mismatch : goal.returns-in_ok-push_asked-in-Mismatch
returns-in_ok-push_asked-in-Mismatch c = grind (arith, common_steps)
