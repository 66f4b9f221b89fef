use Rattle.std.proofs.Common.{◌≡◌, ℕ, refl}
use Rattle.spv_type_forms.proofs.Twins.{structs_match}
use Rattle.spv_ops.specs.Table.{lines}
use Rattle.spv_ops.proofs.laws.group_examples.Goals as goal

pub returns-clause-semantics : goal.returns-clause-semantics
unfolding lines
returns-clause-semantics c = ((tt, refl), ((2, refl), (refl, tt)))

pub returns-clause-same : goal.returns-clause-same
unfolding lines
returns-clause-same c = ((tt, refl), ((2, refl), (refl, (refl, tt))))

pub returns-clause-copy : goal.returns-clause-copy
unfolding lines
returns-clause-copy c =
    ((tt, refl), ((λ e. (let never_so : ◌≡◌ {A = ℕ} 2 3 = e in cc), structs_match), tt))

pub returns-clause-itself : goal.returns-clause-itself
unfolding lines
returns-clause-itself c = λ h. h.1.0.0 refl

pub returns-clause-difference : goal.returns-clause-difference
unfolding lines
returns-clause-difference c = ((tt, refl), ((2, refl), (refl, ((64, refl), tt))))

pub returns-clause-sent : goal.returns-clause-sent
unfolding lines
returns-clause-sent c = ((tt, refl), (refl, (refl, (refl, ((64, refl), tt)))))
