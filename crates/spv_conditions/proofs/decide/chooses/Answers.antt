use Rattle.std.proofs.Common.{arith}
use Rattle.std.proofs.lemmas.Grind.{common_steps}
use Rattle.spv_conditions.proofs.decide.chooses.Goals as goal

pub returns-in_default-Some-Vector-Some-Bool : goal.returns-in_default-Some-Vector-Some-Bool
returns-in_default-Some-Vector-Some-Bool c = grind (arith, common_steps)
