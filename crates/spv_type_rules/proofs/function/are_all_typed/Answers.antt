use Rattle.std.proofs.Common.{arith}
use Rattle.std.proofs.lemmas.Grind.{common_steps}
use Rattle.spv_type_rules.proofs.function.are_all_typed.Goals as goal

pub loop-left-preserved : goal.loop-left-preserved
loop-left-preserved c = grind (arith, common_steps)

pub returns-in-Id-default : goal.returns-in-Id-default
returns-in-Id-default c = grind (arith, common_steps)

pub returns-in-Id-default-2 : goal.returns-in-Id-default-2
returns-in-Id-default-2 c = grind (arith, common_steps)

pub returns-in_default-empty : goal.returns-in_default-empty
returns-in_default-empty c = grind (arith, common_steps)

pub returns-in_default : goal.returns-in_default
returns-in_default c = grind (arith, common_steps)
