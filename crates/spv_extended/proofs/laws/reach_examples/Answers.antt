use Rattle.std.proofs.Common.{refl}
use Rattle.spv_extended.specs.Facts.{facts_of}
use Rattle.spv_extended.proofs.laws.reach_examples.Goals as goal

pub returns-clause-extended : goal.returns-clause-extended
unfolding facts_of
returns-clause-extended c = refl

pub returns-clause-opencl : goal.returns-clause-opencl
unfolding facts_of
returns-clause-opencl c = λ minor. refl
