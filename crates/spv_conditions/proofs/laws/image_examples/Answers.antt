use Rattle.std.proofs.Common.{refl}
use Rattle.spv_conditions.proofs.laws.image_examples.Goals as goal

pub returns-clause-with_sampler : goal.returns-clause-with_sampler
returns-clause-with_sampler c = ((4, refl), refl)
