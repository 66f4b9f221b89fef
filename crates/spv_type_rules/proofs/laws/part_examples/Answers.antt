use Rattle.std.proofs.Common.{refl, inl, lit<}
use Rattle.spv_type_rules.proofs.laws.part_examples.Goals as goal

pub returns-clause-fits : goal.returns-clause-fits
returns-clause-fits c = (8, inl refl, λ _. lit< tt)

pub returns-clause-parts : goal.returns-clause-parts
returns-clause-parts c = ((refl, (refl, tt)), (refl, (refl, (refl, tt))))

pub returns-clause-one_part : goal.returns-clause-one_part
returns-clause-one_part c = λ p. let e = p.1.0 in cc
