use Rattle.std.proofs.Common.{[], ◌∷◌, refl, inl, inr}
use Rattle.spv_module.specs.Operand.{Id}
use Rattle.spv_type_forms.specs.declared.form.Scalar.TheVariants as scalar
use Rattle.spv_std_types.specs.declared.condition.Classes.TheVariants as classes
use Rattle.spv_std_types.specs.Example.{of, small}
use Rattle.spv_std_types.specs.Table.{lines}
use Rattle.spv_std_types.proofs.Worked.{apart, broken, constant_not_stored, four, global, kept, no_int, no_void, not_in, past_three, same_some, three}
use Rattle.spv_std_types.proofs.laws.store_examples.Goals as goal

pub returns-clause-store : goal.returns-clause-store
unfolding lines
returns-clause-store c = kept small 2 99 1 172 (of 9 ∷ of 6 ∷ of 17 ∷ []) (refl, (inr refl, (four, (refl, ((5, 8, refl, global), (refl, tt))))))

pub returns-clause-constant : goal.returns-clause-constant
unfolding lines
returns-clause-constant c = broken small 2 99 1 172 (of 9 ∷ of 6 ∷ of 15 ∷ []) 4 _ refl refl (refl, (inr refl, (four, (refl, tt)))) (not_in small classes.Stored 15 0 8 refl constant_not_stored)

pub returns-clause-component : goal.returns-clause-component
unfolding lines
returns-clause-component c = broken small 2 99 1 172 (of 9 ∷ of 6 ∷ of 18 ∷ []) 5 _ refl refl (refl, (inr refl, (four, (refl, ((5, 7, refl, global), tt))))) (λ e. apart 8 7 refl (same_some 8 7 e))

pub returns-clause-half : goal.returns-clause-half
unfolding lines
returns-clause-half c = kept small 2 99 1 175 (of 8 ∷ of 6 ∷ of 18 ∷ []) (refl, (refl, (refl, (inl refl, (refl, ((5, 7, refl, global), (refl, tt)))))))

pub returns-clause-given : goal.returns-clause-given
unfolding lines
returns-clause-given c = broken small 8 99 1 175 (of 8 ∷ of 6 ∷ of 18 ∷ []) 0 _ refl refl tt (no_void (scalar.Float 32))

pub returns-clause-rounded : goal.returns-clause-rounded
unfolding lines
returns-clause-rounded c = kept small 2 99 1 176 (of 8 ∷ of 6 ∷ of 18 ∷ Id 3 ∷ []) (refl, (refl, (refl, (inl refl, (refl, ((5, 7, refl, global), (refl, (three, tt))))))))

pub returns-clause-no_mode : goal.returns-clause-no_mode
unfolding lines
returns-clause-no_mode c = broken small 2 99 1 176 (of 8 ∷ of 6 ∷ of 18 ∷ Id 4 ∷ []) 7 _ refl refl (refl, (refl, (refl, (inl refl, (refl, ((5, 7, refl, global), (refl, tt))))))) past_three

pub returns-clause-halves : goal.returns-clause-halves
unfolding lines
returns-clause-halves c = kept small 2 99 1 177 (of 9 ∷ of 6 ∷ of 18 ∷ []) (refl, (refl, (four, (inl refl, (refl, ((5, 7, refl, global), (refl, tt)))))))

pub returns-clause-one : goal.returns-clause-one
unfolding lines
returns-clause-one c = broken small 2 99 1 177 (of 8 ∷ of 6 ∷ of 18 ∷ []) 2 _ refl refl (refl, (refl, tt)) (λ n. n refl)

pub returns-clause-prefetch : goal.returns-clause-prefetch
unfolding lines
returns-clause-prefetch c = kept small 2 99 1 185 (of 17 ∷ of 6 ∷ []) (refl, ((5, 8, refl, refl), (inr refl, (refl, tt))))

pub returns-clause-private : goal.returns-clause-private
unfolding lines
returns-clause-private c = broken small 2 99 1 185 (of 13 ∷ of 6 ∷ []) 1 _ refl refl (refl, tt) (not_in small (classes.Only 5) 13 7 8 refl (apart 7 5 refl))

pub returns-clause-print : goal.returns-clause-print
unfolding lines
returns-clause-print c = kept small 5 99 1 184 (of 16 ∷ of 9 ∷ of 17 ∷ []) (refl, ((0, 3, refl, refl), ((8, refl), (refl, tt))))

pub returns-clause-no_text : goal.returns-clause-no_text
unfolding lines
returns-clause-no_text c = broken small 5 99 1 184 (of 15 ∷ []) 2 _ refl refl (refl, ((0, 8, refl, refl), tt)) (λ h. no_int 32 h.0 h.1)
