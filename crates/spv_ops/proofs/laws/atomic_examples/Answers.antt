use Rattle.std.proofs.Common.{refl, inr}
use Rattle.spv_ops.specs.Table.{lines}
use Rattle.spv_ops.proofs.laws.atomic_examples.Goals as goal

pub returns-clause-load : goal.returns-clause-load
unfolding lines
returns-clause-load c = ((tt, refl), (refl, (refl, (refl, (inr (32, refl), tt)))))

pub returns-clause-store : goal.returns-clause-store
unfolding lines
returns-clause-store c = ((tt, refl), (refl, (refl, (refl, (inr (32, refl), tt)))))

pub returns-clause-exchange : goal.returns-clause-exchange
unfolding lines
returns-clause-exchange c = ((tt, refl), (refl, (refl, (refl, (refl, (inr (32, refl), tt))))))

pub returns-clause-compare : goal.returns-clause-compare
unfolding lines
returns-clause-compare c = ((tt, refl), (refl, (refl, (refl, (refl, (refl, (refl, ((32, refl), tt))))))))

pub returns-clause-step : goal.returns-clause-step
unfolding lines
returns-clause-step c = ((tt, refl), (refl, (refl, (refl, ((32, refl), tt)))))

pub returns-clause-update : goal.returns-clause-update
unfolding lines
returns-clause-update c = ((tt, refl), (refl, (refl, (refl, (refl, ((32, refl), tt))))))
