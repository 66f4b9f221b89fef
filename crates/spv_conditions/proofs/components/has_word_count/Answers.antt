use Rattle.std.proofs.Common.{arith}
use Rattle.std.proofs.lemmas.Grind.{common_steps}
use Rattle.spv_conditions.proofs.components.has_word_count.Goals as goal

pub returns-in-Some-Vector : goal.returns-in-Some-Vector
returns-in-Some-Vector c = grind (arith, common_steps)
