use Rattle.std.proofs.Common.{refl, inr}
use Rattle.spv_conditions.proofs.laws.block_examples.Goals as goal

pub returns-clause-size : goal.returns-clause-size
returns-clause-size c = inr (8, refl)

pub returns-clause-locals : goal.returns-clause-locals
returns-clause-locals c = (refl, ((2, refl), tt))
