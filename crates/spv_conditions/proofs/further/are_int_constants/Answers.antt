use Rattle.std.proofs.Common.{arith}
use Rattle.std.proofs.lemmas.Grind.{common_steps}
use Rattle.spv_conditions.proofs.further.are_int_constants.Goals as goal

pub returns-then-not-is_int_constant : goal.returns-then-not-is_int_constant
returns-then-not-is_int_constant c = grind (arith, common_steps)

pub loop-operand-preserved : goal.loop-operand-preserved
loop-operand-preserved c = grind (arith, common_steps)

pub returns : goal.returns
returns c = grind (arith, common_steps)
