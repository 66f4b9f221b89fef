use Rattle.std.proofs.Common.{◌≡◌, ℕ, List, [], ◌∷◌, refl, inl, inr, arith}
use Rattle.spv_conditions.proofs.laws.weight_examples.Goals as goal

not_empty : (x : ℕ) (xs : List ℕ) → x ∷ xs ≡ [] → ⊥
not_empty x xs e = cc

pub returns : goal.returns
returns c = record {
  none = inl refl;
  one = λ h. elim h [
    | inl e ↦ not_empty 1 [] e
    | inr e ↦ (let same : ◌≡◌ {A = ℕ} 1 2 = e in absurd (omega (arith, same)))
  ];
}
