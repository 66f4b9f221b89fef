use Rattle.std.proofs.Common.{◌≡◌, ℕ, Some, true, false, refl, arith}
use Rattle.spv_conditions.proofs.laws.chain_examples.Goals as goal

same_number : (x y : ℕ) → Some x ≡ Some y → x ≡ y
same_number x y e = cc

no_true : false ≡ true → ⊥
no_true e = cc

pub returns : goal.returns
returns c = record {
  led = refl;
  not_led = λ e. (let same = same_number 2 1 e in absurd (omega (arith, same)));
  chosen = refl;
  not_chosen = λ e. no_true e;
}
