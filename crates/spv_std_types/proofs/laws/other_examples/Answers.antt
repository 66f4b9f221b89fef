use Rattle.std.proofs.Common.{[], ◌∷◌, refl, inl, inr}
use Rattle.spv_std_types.specs.declared.condition.Classes.TheVariants as classes
use Rattle.spv_std_types.specs.Example.{of, small}
use Rattle.spv_std_types.specs.Table.{lines}
use Rattle.spv_std_types.proofs.Worked.{apart, broken, constant_not_stored, few, floats_no_ints, kept, not_in, past_four, private}
use Rattle.spv_std_types.proofs.laws.other_examples.Goals as goal

pub returns-clause-length : goal.returns-clause-length
unfolding lines
returns-clause-length c = kept small 8 99 1 106 (of 9 ∷ []) (refl, (refl, (refl, (few, (refl, tt)))))

pub returns-clause-long : goal.returns-clause-long
unfolding lines
returns-clause-long c = broken small 8 99 1 106 (of 10 ∷ []) 3 _ refl refl (refl, (refl, (refl, tt))) past_four

pub returns-clause-distance : goal.returns-clause-distance
unfolding lines
returns-clause-distance c = kept small 8 99 1 105 (of 9 ∷ of 9 ∷ []) (refl, (refl, (refl, (few, (refl, (refl, tt))))))

pub returns-clause-apart : goal.returns-clause-apart
unfolding lines
returns-clause-apart c = broken small 8 99 1 105 (of 9 ∷ of 12 ∷ []) 5 _ refl refl (refl, (refl, (refl, (few, (refl, tt))))) (apart 12 9 refl)

pub returns-clause-part : goal.returns-clause-part
unfolding lines
returns-clause-part c = kept small 8 99 1 30 (of 8 ∷ of 13 ∷ []) (refl, (refl, ((7, 8, refl, private), (refl, tt))))

pub returns-clause-class : goal.returns-clause-class
unfolding lines
returns-clause-class c = broken small 8 99 1 30 (of 8 ∷ of 15 ∷ []) 2 _ refl refl (refl, (refl, tt)) (not_in small classes.Stored 15 0 8 refl constant_not_stored)

pub returns-clause-whole : goal.returns-clause-whole
unfolding lines
returns-clause-whole c = kept small 8 99 1 31 (of 8 ∷ of 14 ∷ []) (refl, (refl, ((7, 5, refl, private), (refl, (refl, (refl, tt))))))

pub returns-clause-float : goal.returns-clause-float
unfolding lines
returns-clause-float c = broken small 8 99 1 31 (of 8 ∷ of 13 ∷ []) 3 _ refl refl (refl, (refl, ((7, 8, refl, private), tt))) floats_no_ints

pub returns-clause-power : goal.returns-clause-power
unfolding lines
returns-clause-power c = kept small 9 99 1 49 (of 9 ∷ of 11 ∷ []) (refl, (refl, (refl, (refl, (refl, tt)))))

pub returns-clause-one_power : goal.returns-clause-one_power
unfolding lines
returns-clause-one_power c = broken small 9 99 1 49 (of 9 ∷ of 5 ∷ []) 4 _ refl refl (refl, (refl, (refl, (refl, tt)))) (apart 1 4 refl)

pub returns-clause-exponent : goal.returns-clause-exponent
unfolding lines
returns-clause-exponent c = kept small 11 99 1 33 (of 9 ∷ []) (refl, (refl, (refl, (refl, tt))))

pub returns-clause-one_exponent : goal.returns-clause-one_exponent
unfolding lines
returns-clause-one_exponent c = broken small 5 99 1 33 (of 9 ∷ []) 3 _ refl refl (refl, (refl, (refl, tt))) (apart 4 1 refl)

pub returns-clause-nan : goal.returns-clause-nan
unfolding lines
returns-clause-nan c = kept small 8 99 1 46 (of 5 ∷ []) (refl, (refl, (refl, (refl, tt))))

pub returns-clause-wide_nan : goal.returns-clause-wide_nan
unfolding lines
returns-clause-wide_nan c = broken small 8 99 1 46 (of 6 ∷ []) 2 _ refl refl (refl, (refl, tt)) (apart 64 32 refl)

pub returns-clause-upsample : goal.returns-clause-upsample
unfolding lines
returns-clause-upsample c = kept small 5 99 1 164 (of 4 ∷ of 4 ∷ []) (refl, (inr (inl refl), (refl, (refl, (refl, (refl, tt))))))

pub returns-clause-quarter : goal.returns-clause-quarter
unfolding lines
returns-clause-quarter c = broken small 6 99 1 164 (of 4 ∷ of 4 ∷ []) 3 _ refl refl (refl, (inr (inr refl), (refl, tt))) (apart 32 64 refl)
