use Rattle.std.proofs.Common.{refl, inl, inr}
use Rattle.spv_ops.specs.Table.{lines}
use Rattle.spv_ops.proofs.laws.conversion_examples.Goals as goal

pub returns-clause-pointer : goal.returns-clause-pointer
unfolding lines
returns-clause-pointer c = ((tt, refl), ((2, refl), ((64, refl), tt)))

pub returns-clause-to_pointer : goal.returns-clause-to_pointer
unfolding lines
returns-clause-to_pointer c = ((tt, refl), ((64, refl), ((2, refl), tt)))

pub returns-clause-to_generic : goal.returns-clause-to_generic
unfolding lines
returns-clause-to_generic c = ((tt, refl), ((5, 2, refl, inr (inl refl)), ((2, refl), ((2, refl, refl), tt))))

pub returns-clause-from_generic : goal.returns-clause-from_generic
unfolding lines
returns-clause-from_generic c = ((tt, refl), ((2, refl), ((5, 2, refl, inr (inl refl)), ((2, refl, refl), tt))))

pub returns-clause-bits : goal.returns-clause-bits
unfolding lines
returns-clause-bits c = ((tt, refl), (inl (64, refl, refl), tt))
