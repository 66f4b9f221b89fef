use Rattle.std.proofs.Common.{arith}
use Rattle.std.proofs.lemmas.Grind.{common_steps}
use Rattle.spv_conditions.proofs.constituents.is_share.Goals as goal

pub returns-in-Some-Vector : goal.returns-in-Some-Vector
returns-in-Some-Vector c = grind (arith, common_steps)
