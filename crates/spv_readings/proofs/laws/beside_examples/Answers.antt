use Rattle.std.proofs.Common.{◌≡◌, ℕ, List, [], ◌∷◌, Some, None, refl}
use Rattle.spv_readings.proofs.laws.beside_examples.Goals as goal

none_some : (x : ℕ) → None ≡ Some x → ⊥
none_some x e = cc

not_empty : (x : ℕ) (xs : List ℕ) → x ∷ xs ≡ [] → ⊥
not_empty x xs e = cc

pub returns : goal.returns
returns c = record {
  named = refl;
  not_named = λ e. none_some 9 e;
  read = refl;
  not_read = λ e. not_empty 1 [] e;
}
