use Rattle.std.proofs.Common.{arith}
use Rattle.std.proofs.lemmas.Grind.{common_steps}
use Rattle.spv_type_rules.proofs.roles.check.are_arguments_played.Goals as goal

pub returns-then-not-plays : goal.returns-then-not-plays
returns-then-not-plays c = grind (arith, common_steps)

pub returns-then-not-defines_type : goal.returns-then-not-defines_type
returns-then-not-defines_type c = grind (arith, common_steps)

pub loop-operand-preserved : goal.loop-operand-preserved
loop-operand-preserved c = grind (arith, common_steps)

pub returns : goal.returns
returns c = grind (arith, common_steps)
