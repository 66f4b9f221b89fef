use Rattle.std.proofs.Common.{refl}
use Rattle.spv_ops.specs.Table.{lines}
use Rattle.spv_ops.proofs.laws.object_examples.Goals as goal

pub returns-clause-profile : goal.returns-clause-profile
unfolding lines
returns-clause-profile c = ((tt, refl), (refl, (refl, ((2, refl), tt))))
