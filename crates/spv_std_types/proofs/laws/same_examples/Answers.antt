use Rattle.std.proofs.Common.{[], ◌∷◌, refl, inl, inr}
use Rattle.spv_std_types.specs.Example.{of, small}
use Rattle.spv_std_types.specs.Table.{lines}
use Rattle.spv_std_types.proofs.Worked.{apart, broken, few, floats_no_ints, ints_no_floats, kept, past_four}
use Rattle.spv_std_types.proofs.laws.same_examples.Goals as goal

pub returns-clause-floats : goal.returns-clause-floats
unfolding lines
returns-clause-floats c = kept small 9 99 1 0 (of 9 ∷ []) (refl, (refl, tt))

pub returns-clause-other_type : goal.returns-clause-other_type
unfolding lines
returns-clause-other_type c = broken small 9 99 1 0 (of 8 ∷ []) 1 _ refl refl (refl, tt) (apart 8 9 refl)

pub returns-clause-no_floats : goal.returns-clause-no_floats
unfolding lines
returns-clause-no_floats c = broken small 5 99 1 0 (of 5 ∷ []) 0 _ refl refl tt ints_no_floats

pub returns-clause-three : goal.returns-clause-three
unfolding lines
returns-clause-three c = kept small 8 99 1 26 (of 8 ∷ of 8 ∷ of 8 ∷ []) (refl, (refl, (refl, (refl, tt))))

pub returns-clause-third : goal.returns-clause-third
unfolding lines
returns-clause-third c = broken small 8 99 1 26 (of 8 ∷ of 8 ∷ of 9 ∷ []) 3 _ refl refl (refl, (refl, (refl, tt))) (apart 9 8 refl)

pub returns-clause-ints : goal.returns-clause-ints
unfolding lines
returns-clause-ints c = kept small 11 99 1 149 (of 11 ∷ of 11 ∷ of 11 ∷ []) (refl, (refl, (refl, (refl, tt))))

pub returns-clause-no_ints : goal.returns-clause-no_ints
unfolding lines
returns-clause-no_ints c = broken small 8 99 1 149 (of 8 ∷ of 8 ∷ of 8 ∷ []) 0 _ refl refl tt floats_no_ints

pub returns-clause-width : goal.returns-clause-width
unfolding lines
returns-clause-width c = kept small 5 99 1 169 (of 5 ∷ of 5 ∷ []) (refl, (refl, (refl, (refl, tt))))

pub returns-clause-other_width : goal.returns-clause-other_width
unfolding lines
returns-clause-other_width c = broken small 6 99 1 169 (of 6 ∷ of 6 ∷ []) 1 _ refl refl (refl, tt) (apart 64 32 refl)

pub returns-clause-few : goal.returns-clause-few
unfolding lines
returns-clause-few c = kept small 9 99 1 107 (of 9 ∷ []) (refl, (few, (refl, tt)))

pub returns-clause-eight : goal.returns-clause-eight
unfolding lines
returns-clause-eight c = broken small 10 99 1 107 (of 10 ∷ []) 1 _ refl refl (refl, tt) past_four

pub returns-clause-cross : goal.returns-clause-cross
unfolding lines
returns-clause-cross c = kept small 9 99 1 104 (of 9 ∷ of 9 ∷ []) (refl, (inr refl, (refl, (refl, tt))))

pub returns-clause-two : goal.returns-clause-two
unfolding lines
returns-clause-two c = broken small 12 99 1 104 (of 12 ∷ of 12 ∷ []) 1 _ refl refl (refl, tt) (λ h. elim h [
  | inl a ↦ apart 2 3 refl a
  | inr b ↦ apart 2 4 refl b
])

pub returns-clause-numbers : goal.returns-clause-numbers
unfolding lines
returns-clause-numbers c = kept small 5 99 1 186 (of 5 ∷ of 5 ∷ of 5 ∷ []) (inl refl, (refl, (refl, (refl, tt))))

pub returns-clause-no_numbers : goal.returns-clause-no_numbers
unfolding lines
returns-clause-no_numbers c = broken small 13 99 1 186 (of 13 ∷ of 13 ∷ of 13 ∷ []) 0 _ refl refl tt (λ h. elim h [
  | inl a ↦ a
  | inr b ↦ b
])
