use Rattle.std.proofs.Common.{◌≡◌, ℕ, Some, None, refl, arith}
use Rattle.spv_conditions.proofs.laws.path_examples.Goals as goal

none_some : (x : ℕ) → None ≡ Some x → ⊥
none_some x e = cc

pub returns : goal.returns
returns c = record {
  reached = refl;
  not_reached = λ e. (let same : ◌≡◌ {A = ℕ} 6 2 = e in absurd (omega (arith, same)));
  stop = refl;
  no_stop = λ e. none_some 0 e;
}
