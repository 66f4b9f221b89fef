use Rattle.std.proofs.Common.{◌≡◌, ap, arith, length, refl}
use Rattle.spv_extended.specs.Facts.{facts_of}
use Rattle.spv_annotate.proofs.laws.literal_examples.Goals as goal

pub returns-clause-operands : goal.returns-clause-operands
unfolding facts_of
returns-clause-operands c = refl

pub returns-clause-vector : goal.returns-clause-vector
unfolding facts_of
returns-clause-vector c = refl

pub returns-clause-other : goal.returns-clause-other
unfolding facts_of
returns-clause-other c = refl

pub returns-clause-line : goal.returns-clause-line
returns-clause-line c = refl

pub returns-clause-not_first : goal.returns-clause-not_first
returns-clause-not_first c = λ e. let l : 17 ≡ 16 = ap length e in omega (arith, l)
