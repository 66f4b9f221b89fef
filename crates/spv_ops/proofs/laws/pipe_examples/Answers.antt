use Rattle.std.proofs.Common.{refl}
use Rattle.spv_ops.specs.Table.{lines}
use Rattle.spv_ops.proofs.laws.pipe_examples.Goals as goal

pub returns-clause-read : goal.returns-clause-read
unfolding lines
returns-clause-read c = ((tt, refl), (refl, ((2, refl), (refl, (refl, (refl, tt))))))

pub returns-clause-write : goal.returns-clause-write
unfolding lines
returns-clause-write c = ((tt, refl), (refl, ((2, refl), (refl, (refl, (refl, tt))))))

pub returns-clause-reserved : goal.returns-clause-reserved
unfolding lines
returns-clause-reserved c = ((tt, refl), (refl, (refl, (refl, ((2, refl), (refl, (refl, (refl, tt))))))))

pub returns-clause-reserved_write : goal.returns-clause-reserved_write
unfolding lines
returns-clause-reserved_write c = ((tt, refl), (refl, (refl, (refl, ((2, refl), (refl, (refl, (refl, tt))))))))
