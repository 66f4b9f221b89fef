use Rattle.std.proofs.Common.{refl, inr, arith}
use Rattle.spv_ops.specs.Table.{lines}
use Rattle.spv_ops.proofs.laws.cluster_examples.Goals as goal

pub returns-clause-bit : goal.returns-clause-bit
unfolding lines
returns-clause-bit c = ((tt, refl), (refl, (refl, ((64, refl), (refl, tt)))))

pub returns-clause-count : goal.returns-clause-count
unfolding lines
returns-clause-count c = ((tt, refl), (refl, (omega arith, (refl, ((32, refl), tt)))))

pub returns-clause-find : goal.returns-clause-find
unfolding lines
returns-clause-find c = ((tt, refl), (refl, (refl, ((64, refl), tt))))

pub returns-clause-clusters : goal.returns-clause-clusters
unfolding lines
returns-clause-clusters c = (inr (refl, refl), (refl, (refl, (refl, (((32, refl), refl), tt)))))

pub returns-clause-swap : goal.returns-clause-swap
unfolding lines
returns-clause-swap c = ((tt, refl), (refl, (refl, (refl, ((32, refl), (refl, tt))))))
