use Rattle.std.proofs.Common.{refl}
use Rattle.spv_extended.specs.Facts.{facts_of}
use Rattle.spv_extended.proofs.laws.signature_examples.Goals as goal

pub returns-clause-load : goal.returns-clause-load
unfolding facts_of
returns-clause-load c = refl

pub returns-clause-printf : goal.returns-clause-printf
unfolding facts_of
returns-clause-printf c = refl

pub returns-clause-no_number : goal.returns-clause-no_number
unfolding facts_of
returns-clause-no_number c = refl

pub returns-clause-third : goal.returns-clause-third
unfolding facts_of
returns-clause-third c = refl

pub returns-clause-not_second : goal.returns-clause-not_second
unfolding facts_of
returns-clause-not_second c = refl

pub returns-clause-operation : goal.returns-clause-operation
unfolding facts_of
returns-clause-operation c = refl

pub returns-clause-function : goal.returns-clause-function
unfolding facts_of
returns-clause-function c = refl

pub returns-clause-too_many : goal.returns-clause-too_many
unfolding facts_of
returns-clause-too_many c = refl
