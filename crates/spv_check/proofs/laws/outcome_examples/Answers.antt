use Rattle.std.proofs.Common.{refl, arith}
use Rattle.spv_check.proofs.laws.outcome_examples.Goals as goal

pub returns-clause-failed : goal.returns-clause-failed
returns-clause-failed c = λ e. omega (arith, e)

pub returns-clause-touched : goal.returns-clause-touched
returns-clause-touched c = λ h. let e = h refl in omega (arith, e)

pub returns-clause-known : goal.returns-clause-known
returns-clause-known c = (refl, refl)

pub returns-clause-not_known : goal.returns-clause-not_known
returns-clause-not_known c = λ e. cc
