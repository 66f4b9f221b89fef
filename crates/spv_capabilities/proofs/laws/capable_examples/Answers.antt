use Rattle.std.proofs.Common.{refl, inl, inr, arith}
use Rattle.spv_capabilities.proofs.Worked.{has_kernel, has_linkage, has_no_other, has_no_kernel, no_entry}
use Rattle.spv_capabilities.proofs.laws.capable_examples.Goals as goal

pub returns : goal.returns
returns c = record {
  kernel = λ e. (has_kernel, has_no_other 1 (λ e. absurd (omega (arith, e))) (λ e. absurd (omega (arith, e))));
  no_kernel = λ k. has_no_kernel (k refl).0;
  capable = record { entry = inr (inl has_kernel); operands = (tt, tt); needs = tt };
  not_capable = λ k. elim k.entry [ inl e ↦ cc | inr n ↦ elim n [ inl h ↦ has_no_kernel h | inr z ↦ z ] ];
  linkage = λ e. inr has_linkage;
  no_linkage = λ k. elim (k refl) [
    | inl n ↦ no_entry n.0 n.1
    | inr h ↦
        has_no_other 5 (λ e. absurd (omega (arith, e))) (λ e. absurd (omega (arith, e))) h
  ];
}
