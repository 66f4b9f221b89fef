use Rattle.std.proofs.Common.{◌≡◌, Some, refl, inl, inr, arith}
use Rattle.spv_capabilities.specs.Capable.{IsCoveredMask}
use Rattle.spv_capabilities.proofs.Worked.{has_kernel, has_vectors, has_images, no_read_write}
use Rattle.spv_capabilities.proofs.Worked.{has_no_other, has_no_kernel}
use Rattle.spv_capabilities.proofs.laws.covered_examples.Goals as goal

pub returns : goal.returns
unfolding IsCoveredMask
returns c = record {
  entry = inr (inl has_kernel);
  no_entry = λ h. elim h [ inl e ↦ cc | inr n ↦ elim n [ inl k ↦ has_no_kernel k | inr z ↦ z ] ];
  one_of_two = λ o. (inr (inr (inl has_kernel)), tt);
  unknown_name = λ f. elim ((f (λ e. let no : Some 0 ≡ Some 1 = e in cc)).1.0) [
    | inl e ↦ cc
    | inr n ↦
        elim n [ inl k ↦ k | inr z ↦ z ]
  ];
  no_bit = λ o. tt;
  capability = λ o. absurd (o refl);
  vector = (inl has_vectors, tt);
  short = λ h. elim h.0 [
    | inl k ↦ has_no_other 22 (λ e. absurd (omega (arith, e))) (λ e. absurd (omega (arith, e))) k
    | inr z ↦ z
  ];
  image = (inl has_images, tt);
  sampler = λ h. elim h.0 [
    | inl k ↦ has_no_other 13 (λ e. absurd (omega (arith, e))) (λ e. absurd (omega (arith, e))) k
    | inr z ↦ z
  ];
  read_write = λ h. elim h.1.0 [ inl k ↦ no_read_write k | inr z ↦ z ];
}
