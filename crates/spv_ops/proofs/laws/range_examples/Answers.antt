use Rattle.std.proofs.Common.{refl, inl, inr}
use Rattle.spv_ops.specs.Table.{lines}
use Rattle.spv_ops.proofs.laws.range_examples.Goals as goal

pub returns-clause-copy : goal.returns-clause-copy
unfolding lines
returns-clause-copy c =
    ((tt, refl), (refl, (inr refl, ((3, refl, refl), (inr (3, 3, refl, refl), (refl, (refl, (refl, (refl, tt)))))))))

pub returns-clause-range : goal.returns-clause-range
unfolding lines
returns-clause-range c =
    ((tt, refl), ((refl, (refl, (refl, refl), (refl, refl), (refl, refl))), (inl refl, (refl, (refl, tt)))))
