use Rattle.std.proofs.Common.{◌≡◌, ℕ, List, ◌∷◌, refl, arith}
use Rattle.spv_type_evidence.proofs.types.laws.constituent_examples.Goals as goal

heads : (x y : ℕ) (xs ys : List ℕ) → x ∷ xs ≡ y ∷ ys → x ≡ y
heads x y xs ys e = cc

pub returns : goal.returns
returns c = record {
  read = refl;
  not_read = λ e. (let same = heads 3 1 _ _ e in absurd (omega (arith, same)));
  type_alone = refl;
}
