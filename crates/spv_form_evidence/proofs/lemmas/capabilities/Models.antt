-- Which operand breaks M1, and what breaks E2 by the operands of an OpEntryPoint.
use Rattle.std.proofs.Common.{◌≡◌, ◌≢◌, ◌⊎◌, ℕ, List, [], ◌∷◌, Some, None, refl, inl, inr, subst, sym}
use Rattle.std.specs.Prelude.{slice_get}
use Rattle.spv_module.specs.Operand.{Plain, Value}
use Rattle.spv_capabilities.specs.Memory.{IsModel}
use Rattle.spv_form_evidence.specs.capabilities.Evidence.{IsOtherModel}
use Rattle.spv_form_evidence.specs.capabilities.inner.Models.{HasAddressing, HasMemory, HasKernelModel}

none_is : (o : Plain) → None ≡ Some o → ⊥
none_is o e = cc

-- the first operand
addressing_is : (os : List Plain) (k a : ℕ) → slice_get os 0 ≡ Some (Value k a) → (a ≡ 1) ⊎ (a ≡ 2) → HasAddressing os
addressing_is [] k a e s = absurd (none_is (Value k a) e)
addressing_is (o ∷ os) k a e s = let p : o ≡ Value k a = cc in subst (λ (x : Plain). HasAddressing (x ∷ os)) (sym p) s

kernel_is : (os : List Plain) (k m : ℕ) → slice_get os 0 ≡ Some (Value k m) → m ≡ 6 → HasKernelModel os
kernel_is [] k m e s = absurd (none_is (Value k m) e)
kernel_is (o ∷ os) k m e s = let p : o ≡ Value k m = cc in subst (λ (x : Plain). HasKernelModel (x ∷ os)) (sym p) s

memory_is : (os : List Plain) (k m : ℕ) → slice_get os 1 ≡ Some (Value k m) → m ≡ 2 → HasMemory os
memory_is [] k m e s = absurd (none_is (Value k m) e)
memory_is (o ∷ []) k m e s = absurd (none_is (Value k m) e)
memory_is (o ∷ p ∷ os) k m e s = let q : p ≡ Value k m = cc in subst (λ (x : Plain). HasMemory (o ∷ x ∷ os)) (sym q) s

pub other_addressing : (os : List Plain) → ¬ (HasAddressing os) → IsOtherModel os 0
other_addressing os h = IsOtherModel.addressing (λ k a e. (
  λ p. h (addressing_is os k a e (inl p)),
  λ p. h (addressing_is os k a e (inr p)),
))

pub other_memory : (os : List Plain) → ¬ (HasMemory os) → IsOtherModel os 1
other_memory os h = IsOtherModel.memory (λ k m e p. h (memory_is os k m e p))

pub not_kernel : (os : List Plain) → ¬ (HasKernelModel os) → (k m : ℕ) → slice_get os 0 ≡ Some (Value k m) → m ≢ 6
not_kernel os h k m e p = h (kernel_is os k m e p)

-- an operand after the two
pub other_third : (os : List Plain) → ¬ (IsModel os) → HasAddressing os → HasMemory os → IsOtherModel os 2
other_third (Value k a ∷ Value l m ∷ []) h s t = absurd (h (s, t))
other_third (Value k a ∷ Value l m ∷ o ∷ os) h s t = IsOtherModel.more o refl
other_third (Value k a ∷ o ∷ os) h s t = absurd t
other_third (Value k a ∷ []) h s t = absurd t
other_third _ h s t = absurd s
