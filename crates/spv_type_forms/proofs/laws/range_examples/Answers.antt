use Rattle.std.proofs.Common.{refl, inl, inr}
use Rattle.spv_type_forms.proofs.laws.range_examples.Goals as goal

pub returns-clause-size : goal.returns-clause-size
returns-clause-size c = refl

pub returns-clause-sizes : goal.returns-clause-sizes
returns-clause-sizes c = (refl, refl)

pub returns-clause-range : goal.returns-clause-range
returns-clause-range c = (refl, (refl, (refl, refl), (refl, refl), (refl, refl)))

pub returns-clause-pointer : goal.returns-clause-pointer
returns-clause-pointer c = inr (10, refl, (refl, (refl, (refl, refl), (refl, refl), (refl, refl))))
