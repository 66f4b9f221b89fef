use Rattle.std.proofs.Common.{refl, inl, inr}
use Rattle.spv_std_types.proofs.Worked.{apart, constant_not_stored, private}
use Rattle.spv_std_types.proofs.laws.word_examples.Goals as goal

pub returns-clause-among : goal.returns-clause-among
returns-clause-among c = inr (inl refl)

pub returns-clause-not_among : goal.returns-clause-not_among
returns-clause-not_among c = λ n. n refl

pub returns-clause-stored : goal.returns-clause-stored
returns-clause-stored c = private

pub returns-clause-loaded : goal.returns-clause-loaded
returns-clause-loaded c = inr refl

pub returns-clause-not_stored : goal.returns-clause-not_stored
returns-clause-not_stored c = constant_not_stored

pub returns-clause-half : goal.returns-clause-half
returns-clause-half c = refl

pub returns-clause-not_half : goal.returns-clause-not_half
returns-clause-not_half c = apart 32 64 refl

pub returns-clause-same : goal.returns-clause-same
returns-clause-same c = refl

pub returns-clause-not_same : goal.returns-clause-not_same
returns-clause-not_same c = apart 8 5 refl

pub returns-clause-count : goal.returns-clause-count
returns-clause-count c = refl

pub returns-clause-no_count : goal.returns-clause-no_count
returns-clause-no_count c = apart 4 2 refl

pub returns-clause-rounding : goal.returns-clause-rounding
returns-clause-rounding c = apart 7 4 refl
