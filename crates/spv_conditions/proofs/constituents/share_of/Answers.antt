use Rattle.std.proofs.Common.{arith}
use Rattle.std.proofs.lemmas.Grind.{common_steps}
use Rattle.spv_conditions.proofs.constituents.share_of.Goals as goal

pub returns-in-Vector : goal.returns-in-Vector
returns-in-Vector c = grind (arith, common_steps)
