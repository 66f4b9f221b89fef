use Rattle.std.proofs.Common.{refl, inl, inr, arith}
use Rattle.spv_ops.specs.Table.{lines}
use Rattle.spv_ops.proofs.laws.further_calculation_examples.Goals as goal

pub returns-clause-cast : goal.returns-clause-cast
unfolding lines
returns-clause-cast c = ((tt, refl), ((2, refl), ((5, 2, refl, inr (inl refl)), (refl, ((2, refl, refl), tt)))))

pub returns-clause-scale : goal.returns-clause-scale
unfolding lines
returns-clause-scale c = ((tt, refl), (refl, (refl, ((4, refl), tt))))

pub returns-clause-dot : goal.returns-clause-dot
unfolding lines
returns-clause-dot c = ((tt, refl), (refl, ((4, refl), (refl, tt))))

pub returns-clause-any : goal.returns-clause-any
unfolding lines
returns-clause-any c = ((tt, refl), (refl, ((4, refl), tt)))

pub returns-clause-field : goal.returns-clause-field
unfolding lines
returns-clause-field c = ((tt, refl), (refl, (refl, (refl, ((32, refl), ((64, refl), tt))))))

pub returns-clause-extract : goal.returns-clause-extract
unfolding lines
returns-clause-extract c = ((tt, refl), (refl, (refl, ((32, refl), ((64, refl), tt)))))

pub returns-clause-dot_ints : goal.returns-clause-dot_ints
unfolding lines
returns-clause-dot_ints c = ((tt, refl), ((64, refl), (refl, (omega arith, tt))))

pub returns-clause-packed : goal.returns-clause-packed
unfolding lines
returns-clause-packed c = ((tt, refl), ((32, refl), (refl, (refl, tt))))

pub returns-clause-added : goal.returns-clause-added
unfolding lines
returns-clause-added c = ((tt, refl), ((64, refl), (refl, (omega arith, (refl, tt)))))
