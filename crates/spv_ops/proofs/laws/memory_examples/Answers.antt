use Rattle.std.proofs.Common.{refl}
use Rattle.spv_ops.specs.Table.{lines}
use Rattle.spv_ops.proofs.laws.memory_examples.Goals as goal

pub returns-clause-copy : goal.returns-clause-copy
unfolding lines
returns-clause-copy c = ((tt, refl), ((2, refl, refl), tt))

pub returns-clause-sized : goal.returns-clause-sized
unfolding lines
returns-clause-sized c = ((tt, refl), ((2, refl), ((6, refl), ((64, refl), tt))))

pub returns-clause-lifetime : goal.returns-clause-lifetime
unfolding lines
returns-clause-lifetime c = ((tt, refl), ((1, refl), tt))
