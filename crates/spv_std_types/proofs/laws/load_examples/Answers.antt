use Rattle.std.proofs.Common.{[], ◌∷◌, refl, inl, inr}
use Rattle.spv_module.specs.Operand.{Id}
use Rattle.spv_std_types.specs.Example.{of, small}
use Rattle.spv_std_types.specs.Table.{lines}
use Rattle.spv_std_types.proofs.Worked.{apart, broken, float_widths, four, global, int_widths, kept}
use Rattle.spv_std_types.proofs.laws.load_examples.Goals as goal

pub returns-clause-load : goal.returns-clause-load
unfolding lines
returns-clause-load c = kept small 9 99 1 171 (of 6 ∷ of 15 ∷ Id 4 ∷ []) (inr refl, (four, (refl, ((0, 8, refl, inr refl), (refl, (refl, tt))))))

pub returns-clause-two : goal.returns-clause-two
unfolding lines
returns-clause-two c = broken small 9 99 1 171 (of 6 ∷ of 15 ∷ Id 2 ∷ []) 5 _ refl refl (inr refl, (four, (refl, ((0, 8, refl, inr refl), (refl, tt))))) (apart 4 2 refl)

pub returns-clause-narrow : goal.returns-clause-narrow
unfolding lines
returns-clause-narrow c = broken small 9 99 1 171 (of 5 ∷ of 15 ∷ Id 4 ∷ []) 2 _ refl refl (inr refl, (four, tt)) (λ e. apart 32 64 refl (int_widths 32 64 e))

pub returns-clause-half : goal.returns-clause-half
unfolding lines
returns-clause-half c = kept small 8 99 1 173 (of 6 ∷ of 18 ∷ []) (refl, (refl, (refl, ((5, 7, refl, inl global), (refl, tt)))))

pub returns-clause-no_half : goal.returns-clause-no_half
unfolding lines
returns-clause-no_half c = broken small 8 99 1 173 (of 6 ∷ of 17 ∷ []) 4 _ refl refl (refl, (refl, (refl, ((5, 8, refl, inl global), tt)))) (λ e. apart 32 16 refl (float_widths 32 16 e))

pub returns-clause-halves : goal.returns-clause-halves
unfolding lines
returns-clause-halves c = kept small 9 99 1 174 (of 6 ∷ of 18 ∷ Id 4 ∷ []) (refl, (four, (refl, ((5, 7, refl, inl global), (refl, (refl, tt))))))

pub returns-clause-one : goal.returns-clause-one
unfolding lines
returns-clause-one c = broken small 8 99 1 174 (of 6 ∷ of 18 ∷ Id 1 ∷ []) 1 _ refl refl (refl, tt) (λ n. n refl)
