-- The storage class of a variable, by where it stands.
use Rattle.std.proofs.Common.{◌≡◌, ◌≢◌, ◌↔◌, ◌+◌, if◌then◌else◌, inl, inr, ℕ, List, Option, Some, None, Bool, true}
use Rattle.std.proofs.Common.{false, refl, arith}
use Rattle.std.specs.Prelude.{MatchOption, nat_lt}
use Rattle.std.proofs.lemmas.Bool.{ltb-true}
use Rattle.std.proofs.lemmas.Option.{none-some, same_Some}
use Rattle.spv_module.specs.Operand.{PlainInst}
use Rattle.spv_layout.specs.declared.class.Class.{Class}
use Rattle.spv_layout.specs.Class.{class_number}
use Rattle.spv_layout.specs.Place.{IsOfSection, IsOfFunction, section_of}
use Rattle.spv_layout.specs.Plan.{IsPlaceOf}
use Rattle.spv_layout.specs.declared.place.Place.{Place}
use Rattle.spv_conditions.specs.Variable.{MayHave}
use Rattle.spv_type_forms.proofs.Lookups.{one_section}

-- no class is of section 11 alone
not_11 : (k : ℕ) (is_early : Bool) → nat_lt k 10 ≡ is_early → (if is_early then Some (1 + k) else None) ≡ Some 11 → ⊥
not_11 k true lt e = let below = ltb-true k 10 lt in let same = same_Some (1 + k) 11 e in omega (arith, below, same)
not_11 k false lt e = absurd (none-some 11 e)

early_none : (c : Class) → section_of c ≡ Some 11 → ⊥
early_none c e = not_11 (class_number c) (nat_lt (class_number c) 10) refl e

-- an instruction of section 11 is of no function
no_function : (is : List PlainInst) (n f : ℕ) → IsOfSection is n 11 → IsOfFunction is n f → ⊥
no_function is n f (IsOfSection.early c _ there by) o = early_none c by
no_function is n f (IsOfSection.global e there by never) o = never f o.begun

-- the storage class of a variable in a function, and outside functions
pub class_inside : (is : List PlainInst) (n f class : ℕ) → IsOfFunction is n f → (class ≡ 7) ↔ MayHave is n class
class_inside is n f class o = (
  λ e. inr (f, o, e),
  λ h. elim h [ inl a ↦ absurd (no_function is n f a.0 o) | inr b ↦ b.2 ],
)

pub class_outside : (is : List PlainInst) (n class : ℕ) (p : Place) → IsPlaceOf is n p
    → ((f : ℕ) → IsOfFunction is n f → ⊥)
    → ((p.section ≡ 11) × (class ≢ 7) × (class ≢ 8)) ↔ MayHave is n class
class_outside is n class p place never = (
  λ a. inl (rw (← a.0) place.section, a.1, a.2),
  λ h. elim h [
    | inl a ↦ (one_section is n p.section place.section a.0, a.1, a.2)
    | inr b ↦ absurd (never b.0 b.1)
  ],
)

pub of_function : (is : List PlainInst) (n f : ℕ) (o : Option ℕ)
    → MatchOption o ((g : ℕ) → ¬ (IsOfFunction is n g)) (λ g. IsOfFunction is n g) → o ≡ Some f → IsOfFunction is n f
of_function is n f None h e = absurd (none-some f e)
of_function is n f (Some g) h e = let same : g ≡ f = cc in rw (← same) h

pub of_none : (is : List PlainInst) (n : ℕ) (o : Option ℕ)
    → MatchOption o ((g : ℕ) → ¬ (IsOfFunction is n g)) (λ g. IsOfFunction is n g) → o ≡ None → (f : ℕ)
    → IsOfFunction is n f → ⊥
of_none is n None h e f a = h f a
of_none is n (Some g) h e f a = cc
