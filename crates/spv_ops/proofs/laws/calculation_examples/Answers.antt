use Rattle.std.proofs.Common.{refl, inr}
use Rattle.spv_ops.specs.Table.{lines}
use Rattle.spv_ops.proofs.laws.calculation_examples.Goals as goal

pub returns-clause-choice_each : goal.returns-clause-choice_each
unfolding lines
returns-clause-choice_each c = ((tt, refl), (tt, (refl, (refl, (inr (1, 4, refl, refl), (tt, tt))))))
