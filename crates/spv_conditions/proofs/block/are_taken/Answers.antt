use Rattle.std.proofs.Common.{arith}
use Rattle.std.proofs.lemmas.Grind.{common_steps}
use Rattle.spv_conditions.proofs.block.are_taken.Goals as goal

pub returns-in_default : goal.returns-in_default
returns-in_default c = grind (arith, common_steps)

pub returns-then-parameters-count : goal.returns-then-parameters-count
returns-then-parameters-count c = grind (arith, common_steps)

pub returns-else-parameters-count : goal.returns-else-parameters-count
returns-else-parameters-count c = grind (arith, common_steps)
