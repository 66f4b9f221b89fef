use Rattle.std.proofs.Common.{◌≡◌, ◌<◌, ℕ, true, false, refl, inl, inr, arith}
use Rattle.spv_layout.specs.Place.{IsOfBlock}
use Rattle.spv_conditions.specs.Example.{sets}
use Rattle.spv_ops.specs.Table.{lines}
use Rattle.spv_ops.proofs.laws.outside_examples.Goals as goal

pub returns-clause-mode : goal.returns-clause-mode
unfolding lines
returns-clause-mode c = ((λ e. cc, ((refl, (32, refl)), tt)), tt)

pub returns-clause-with_id : goal.returns-clause-with_id
unfolding lines
returns-clause-with_id c = ((λ e. cc, (inl refl, tt)), tt)

pub returns-clause-without_id : goal.returns-clause-without_id
unfolding lines
returns-clause-without_id c = λ h. h.0.0 refl

pub returns-clause-text : goal.returns-clause-text
unfolding lines
returns-clause-text c = ((λ e. cc, (tt, tt)), tt)

pub returns-clause-no_text : goal.returns-clause-no_text
unfolding lines
returns-clause-no_text c = λ h. h.0.0 refl

pub returns-clause-silent : goal.returns-clause-silent
unfolding lines
returns-clause-silent c = (inr (refl, refl), tt)

in_no_block : (b : ℕ) → IsOfBlock sets 8 b → ⊥
in_no_block b w = let l : ◌<◌ 8 6 = w.begun.within in omega (arith, l)

pub returns-clause-loud : goal.returns-clause-loud
unfolding lines
returns-clause-loud c = λ h. elim h.0 [
  | inl b ↦ in_no_block b.0 b.1
  | inr s ↦ (let no : false ≡ true = s.1 in cc)
]

pub returns-clause-group : goal.returns-clause-group
unfolding lines
returns-clause-group c = (refl, ((λ e. (let never_so : ◌≡◌ {A = ℕ} 30 73 = e in cc), tt), tt))

pub returns-clause-of_group : goal.returns-clause-of_group
unfolding lines
returns-clause-of_group c = λ h. h.1.0.0 refl

pub returns-clause-member : goal.returns-clause-member
unfolding lines
returns-clause-member c = (refl, (((refl, omega arith), tt), tt))

pub returns-clause-past : goal.returns-clause-past
unfolding lines
returns-clause-past c = λ h. (let l : ◌<◌ 2 2 = h.1.0.0.1 in absurd (omega (arith, l)))
