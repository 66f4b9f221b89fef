use Rattle.std.proofs.Common.{[], ◌∷◌, refl, inl, inr}
use Rattle.spv_std_types.specs.Example.{of, small}
use Rattle.spv_std_types.specs.Table.{lines}
use Rattle.spv_std_types.proofs.Worked.{apart, broken, kept}
use Rattle.spv_std_types.proofs.laws.choice_examples.Goals as goal

pub returns-clause-select : goal.returns-clause-select
unfolding lines
returns-clause-select c = kept small 9 99 1 187 (of 9 ∷ of 9 ∷ of 11 ∷ []) (inr refl, (refl, (refl, (refl, (refl, (refl, tt))))))

pub returns-clause-one : goal.returns-clause-one
unfolding lines
returns-clause-one c = broken small 9 99 1 187 (of 9 ∷ of 9 ∷ of 5 ∷ []) 5 _ refl refl (inr refl, (refl, (refl, (refl, (refl, tt))))) (apart 1 4 refl)

pub returns-clause-shuffle : goal.returns-clause-shuffle
unfolding lines
returns-clause-shuffle c = kept small 12 99 1 182 (of 9 ∷ of 19 ∷ []) (inr refl, (inl refl, (refl, (inr (inl refl), (refl, (refl, (refl, tt)))))))

pub returns-clause-long_mask : goal.returns-clause-long_mask
unfolding lines
returns-clause-long_mask c = broken small 12 99 1 182 (of 9 ∷ of 11 ∷ []) 6 _ refl refl (inr refl, (inl refl, (refl, (inr (inl refl), (refl, (refl, tt)))))) (apart 4 2 refl)

pub returns-clause-shuffle_two : goal.returns-clause-shuffle_two
unfolding lines
returns-clause-shuffle_two c = kept small 12 99 1 183 (of 9 ∷ of 9 ∷ of 19 ∷ []) (inr refl, (inl refl, (refl, (inr (inl refl), (refl, (refl, (refl, (refl, tt))))))))

pub returns-clause-unlike : goal.returns-clause-unlike
unfolding lines
returns-clause-unlike c = broken small 12 99 1 183 (of 9 ∷ of 12 ∷ of 19 ∷ []) 4 _ refl refl (inr refl, (inl refl, (refl, (inr (inl refl), tt)))) (apart 12 9 refl)
