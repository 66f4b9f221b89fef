use Rattle.std.proofs.Common.{refl, inl, inr, arith}
use Rattle.spv_ops.proofs.Worked.{pointed_section}
use Rattle.spv_ops.specs.Table.{lines}
use Rattle.spv_ops.proofs.laws.wide_examples.Goals as goal

pub returns-clause-chain : goal.returns-clause-chain
unfolding lines
returns-clause-chain c = ((6, refl), ((32, refl), (refl, ((2, refl), ((5, 2, 6, refl, refl), (refl, tt))))))

pub returns-clause-element : goal.returns-clause-element
unfolding lines
returns-clause-element c =
    ((6, refl), ((32, refl), ((32, refl), (refl, ((2, refl), ((5, 2, 6, refl, refl), (refl, tt)))))))

pub returns-clause-construct : goal.returns-clause-construct
unfolding lines
returns-clause-construct c = (tt, (omega arith, (inr (2, refl), (inr (2, refl), (refl, (tt, (tt, (tt, tt))))))))

pub returns-clause-variable : goal.returns-clause-variable
unfolding lines
returns-clause-variable c = ((6, refl), (refl, (inl (pointed_section, λ e. cc, λ e. cc), (tt, (tt, tt)))))

pub returns-clause-choice : goal.returns-clause-choice
unfolding lines
returns-clause-choice c = ((tt, refl), ((64, refl), tt))
