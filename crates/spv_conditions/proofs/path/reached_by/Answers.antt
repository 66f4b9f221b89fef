use Rattle.std.proofs.Common.{arith}
use Rattle.std.proofs.lemmas.Grind.{common_steps}
use Rattle.spv_conditions.proofs.path.reached_by.Goals as goal

pub returns-in_default-part_within : goal.returns-in_default-part_within
returns-in_default-part_within c = grind (arith, common_steps)

pub loop-operand-preserved : goal.loop-operand-preserved
loop-operand-preserved c = grind (arith, common_steps)

pub returns : goal.returns
returns c = grind (arith, common_steps)
