-- In which sections uses come in order, and in scope, by the section's number.
use Rattle.std.proofs.Common.{◌≡◌, ◌≢◌, refl, ◌≤◌, ◌+◌, ℕ, List, inl, inr, Bool, true, false, Some, None, arith, nat_lt}
use Rattle.std.proofs.Common.{if◌then◌else◌, subst}
use Rattle.std.proofs.lemmas.Bool.{ltb-true}
use Rattle.spv_module.specs.Operand.{PlainInst}
use Rattle.spv_layout.specs.declared.class.Class.{Class}
use Rattle.spv_layout.specs.Class.{class_number}
use Rattle.spv_layout.specs.Place.{IsOfSection, section_of}
use Rattle.spv_layout.proofs.Places.{section_same}
use Rattle.spv_ids.specs.Order.{IsOrdered, IsScoped}

low_by : (b : Bool) (k s : ℕ) → nat_lt k 10 ≡ b → (if b then Some (1 + k) else None) ≡ Some s → s ≤ 10
low_by true k s t e =
    let l = ltb-true k 10 t in
    let q : 1 + k ≡ s = cc in
    omega (arith, l, q)
low_by false k s t e = absurd cc

-- a class that stands in one section alone stands before section 9, which is the 11th
pub early_low : (c : Class) (s : ℕ) → section_of c ≡ Some s → s ≤ 10
early_low c s e = low_by (nat_lt (class_number c) 10) (class_number c) s refl e

pub scoped_from : (is : List PlainInst) (n s : ℕ) → IsOfSection is n s → 11 ≤ s → IsScoped is n
scoped_from is n _ (IsOfSection.early c s h k) l = absurd (let e = early_low c s k in omega (arith, e, l))
scoped_from is n _ (IsOfSection.global c h k f) l = inl (IsOfSection.global c h k f)
scoped_from is n _ (IsOfSection.declaration c f h k a d) l = inr (inl (IsOfSection.declaration c f h k a d))
scoped_from is n _ (IsOfSection.definition c f h k a d) l = inr (inr (IsOfSection.definition c f h k a d))

pub scoped_to : (is : List PlainInst) (n s : ℕ) → IsOfSection is n s → IsScoped is n → 11 ≤ s
scoped_to is n s o (inl a) = let e = section_same is n s 11 o a in omega (arith, e)
scoped_to is n s o (inr (inl a)) = let e = section_same is n s 12 o a in omega (arith, e)
scoped_to is n s o (inr (inr a)) = let e = section_same is n s 13 o a in omega (arith, e)

pub ordered_from : (is : List PlainInst) (n s : ℕ) → IsOfSection is n s → s ≡ 11 → IsOrdered is n
ordered_from is n s o e = inr (subst (λ (k : ℕ). IsOfSection is n k) e o)

pub ordered_to : (is : List PlainInst) (n s : ℕ) → IsOfSection is n s → s ≢ 7 → IsOrdered is n → s ≡ 11
ordered_to is n s o d (inl a) = absurd (d (section_same is n s 7 o a))
ordered_to is n s o d (inr a) = section_same is n s 11 o a
