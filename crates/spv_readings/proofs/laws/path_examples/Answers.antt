use Rattle.std.proofs.Common.{◌≡◌, ℕ, List, [], ◌∷◌, refl}
use Rattle.spv_readings.proofs.laws.path_examples.Goals as goal

not_empty : (x : ℕ) (xs : List ℕ) → x ∷ xs ≡ [] → ⊥
not_empty x xs e = cc

pub returns : goal.returns
returns c = record {
  path = refl;
  no_path = λ e. not_empty 6 [] e;
}
