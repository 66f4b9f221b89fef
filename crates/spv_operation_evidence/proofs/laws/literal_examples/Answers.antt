use Rattle.std.proofs.Common.{◌≡◌, ℕ, Some, None, refl}
use Rattle.spv_operation_evidence.proofs.laws.literal_examples.Goals as goal

none_some : (x : ℕ) → None ≡ Some x → ⊥
none_some x e = cc

pub returns : goal.returns
returns c = record { odd = refl; not_odd = λ e. none_some 0 e }
