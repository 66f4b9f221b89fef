use Rattle.std.proofs.Common.{◌≡◌, ℕ, Some, None, refl}
use Rattle.spv_operation_evidence.proofs.laws.mask_examples.Goals as goal

none_some : (x : ℕ) → None ≡ Some x → ⊥
none_some x e = cc

pub returns : goal.returns
returns c = record { mask = refl; no_mask = λ e. none_some 0 e }
