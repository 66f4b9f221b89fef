-- Worked examples.
use Rattle.std.proofs.Common.{◌≡◌, inl, inr, arith}
use Rattle.spv_kernel_operands.specs.Scopes.{HasOneOrder}

-- Acquire and Release together are two orders.
pub no_order : ¬ (HasOneOrder 6)
no_order (inl e) = let f : 6 ≡ 0 = e in absurd (omega (arith, f))
no_order (inr (inl e)) = let f : 6 ≡ 2 = e in absurd (omega (arith, f))
no_order (inr (inr (inl e))) = let f : 6 ≡ 4 = e in absurd (omega (arith, f))
no_order (inr (inr (inr (inl e)))) = let f : 6 ≡ 8 = e in absurd (omega (arith, f))
no_order (inr (inr (inr (inr e)))) = let f : 6 ≡ 16 = e in absurd (omega (arith, f))
