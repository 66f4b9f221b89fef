use Rattle.std.proofs.Common.{◌≡◌, ℕ, [], ◌∷◌, refl}
use Rattle.spv_readings.proofs.laws.chain_examples.Goals as goal

shorter : (x y z : ℕ) → x ∷ y ∷ [] ≡ x ∷ y ∷ z ∷ [] → ⊥
shorter x y z e = cc

pub returns : goal.returns
returns c = record {
  read = refl;
  not_read = λ e. shorter 7 6 2 e;
  read_led = refl;
}
