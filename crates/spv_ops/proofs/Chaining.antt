-- The conditions of access chains.
use Rattle.std.proofs.Common.{◌≡◌, ◌∙◌, ℕ, zero, suc, List, [], ◌∷◌, Option, Some, None, true, false, refl, sym, ap}
use Rattle.std.proofs.Common.{take, option_and_then}
use Rattle.std.specs.Prelude.{IsSomeAnd, IsSome}
use Rattle.std.specs.List.{AllByRecursion}
use Rattle.std.proofs.lemmas.Option.{option_and_then_some}
use Rattle.spv_module.specs.Operand.{PlainInst}
use Rattle.spv_type_forms.specs.declared.form.Form.{Form}
use Rattle.spv_type_forms.specs.declared.form.Form.TheVariants as form
use Rattle.spv_type_forms.specs.Form.{form_of}
use Rattle.spv_type_forms.specs.Types.{pointee_in, IsSomeInt, IsPointer, PointsTo}
use Rattle.spv_type_forms.specs.inner.Walk.{choice_in, choice, choices}
use Rattle.spv_type_forms.proofs.Choices.{choices_decide}
use Rattle.spv_ops.specs.inner.Chain.{LeadsByPointer, Chains, ChainsByElement}
use Rattle.spv_conditions.specs.Chain.{chosen_in, chosen_of, led_from, led_by, led_to}

-- Where indexes lead is what spv_type_forms makes of them.

chosen_same : (is : List PlainInst) (t x : ℕ) (o : Option Form)
    → option_and_then (chosen_in is t x) o ≡ option_and_then (choice_in is t x) o
chosen_same is t x None = refl
chosen_same is t x (Some form.Struct) = refl
chosen_same is t x (Some form.Void) = refl
chosen_same is t x (Some (form.Scalar s)) = refl
chosen_same is t x (Some (form.Vector a b)) = refl
chosen_same is t x (Some (form.Array a b)) = refl
chosen_same is t x (Some form.Opaque) = refl
chosen_same is t x (Some (form.Pointer a b)) = refl
chosen_same is t x (Some form.Function) = refl
chosen_same is t x (Some (form.Object o)) = refl
chosen_same is t x (Some (form.SampledImage i)) = refl

led_same : (is : List PlainInst) (xs : List ℕ) (t : ℕ) → led_from is xs t ≡ choices is xs t
led_same is [] t = refl
led_same is (x ∷ xs) t =
    ap (option_and_then (led_from is xs)) (chosen_same is t x (form_of is t))
    ∙ next (λ u. led_same is xs u) (choice is t x) where
      next : ((u : ℕ) → led_from is xs u ≡ choices is xs u) → (o : Option ℕ)
          → option_and_then (led_from is xs) o ≡ option_and_then (λ u. choices is xs u) o
      next same None = refl
      next same (Some u) = same u

-- the first indexes lead somewhere, where all do
led_part : (is : List PlainInst) (xs : List ℕ) (t u k : ℕ) → led_from is xs t ≡ Some u
    → IsSome (led_from is (take k xs) t)
led_part is [] t u zero e = refl
led_part is [] t u (suc k) e = refl
led_part is (x ∷ xs) t u zero e = refl
led_part is (x ∷ xs) t u (suc k) e =
    option_and_then_some (led_from is xs) (chosen_of is t x) u e (λ v i w. rw i (led_part is xs v u k w))

-- the type that indexes lead to from the base of a chain
leading : (is : List PlainInst) (r o : ℕ) (xs : List ℕ) (l : LeadsByPointer is r o xs)
    → led_from is xs l.from ≡ Some l.to
leading is r o xs l = led_same is xs l.from ∙ (choices_decide is xs l.from l.to).1 l.leads

-- A chain: what its row says of the indexes.

pub chain_chosen : (is : List PlainInst) (r : ℕ) (ts xs : List ℕ) (k : ℕ) → Chains is r ts xs
    → IsSome (led_by is false xs ts k)
chain_chosen is r (o ∷ ts) (x ∷ xs) k (each, l) =
    let base : pointee_in (form_of is o) ≡ Some l.from = ap pointee_in l.base in
    rw base (led_part is xs l.from l.to k (leading is r o xs l))
chain_chosen is r _ _ k h = absurd h

pub chain_leads : (is : List PlainInst) (r : ℕ) (ts xs : List ℕ) → Chains is r ts xs
    → IsSomeAnd (led_to is false xs ts) (PointsTo is r)
chain_leads is r (o ∷ ts) (x ∷ xs) (each, l) =
    let base : pointee_in (form_of is o) ≡ Some l.from = ap pointee_in l.base in
    rw (base, leading is r o xs l) (ap pointee_in l.result)
chain_leads is r _ _ h = absurd h

pub element_chosen : (is : List PlainInst) (r : ℕ) (ts xs : List ℕ) (k : ℕ) → ChainsByElement is r ts xs
    → IsSome (led_by is true xs ts k)
element_chosen is r (o ∷ p ∷ ts) (x ∷ y ∷ xs) k (i, each, l) =
    let base : pointee_in (form_of is o) ≡ Some l.from = ap pointee_in l.base in
    rw base (led_part is xs l.from l.to k (leading is r o xs l))
element_chosen is r _ _ k h = absurd h

pub element_leads : (is : List PlainInst) (r : ℕ) (ts xs : List ℕ) → ChainsByElement is r ts xs
    → IsSomeAnd (led_to is true xs ts) (PointsTo is r)
element_leads is r (o ∷ p ∷ ts) (x ∷ y ∷ xs) (i, each, l) =
    let base : pointee_in (form_of is o) ≡ Some l.from = ap pointee_in l.base in
    rw (base, leading is r o xs l) (ap pointee_in l.result)
element_leads is r _ _ h = absurd h

-- what the row says of pointers, from what the conditions say

points : (o : Option Form) (s p x : ℕ) → o ≡ Some (form.Pointer s p) → pointee_in o ≡ Some x
    → o ≡ Some (form.Pointer s x)
points o s p x a b =
    let e : Some p ≡ Some x = sym (ap pointee_in a) ∙ b in
    let same : p ≡ x = cc in
    a ∙ ap (λ y. Some (form.Pointer s y)) same

by_pointer : (is : List PlainInst) (r o class p q : ℕ) (xs : List ℕ) → IsPointer is r class p → IsPointer is o class q
    → IsSomeAnd (led_from is xs q) (PointsTo is r) → LeadsByPointer is r o xs
by_pointer is r o class p q xs a b h = some (led_from is xs q) refl h where
  some : (m : Option ℕ) → led_from is xs q ≡ m → IsSomeAnd m (PointsTo is r) → LeadsByPointer is r o xs
  some None e k = absurd k
  some (Some u) e k = record {
    class = class;
    from = q;
    to = u;
    base = b;
    leads = (choices_decide is xs q u).0 (sym (led_same is xs q) ∙ e);
    result = points (form_of is r) class p u a k;
  }

-- one class
abbrev OneClass : List PlainInst → ℕ → ℕ → Type 0
OneClass is r o = (class p q : ℕ) × IsPointer is r class p × IsPointer is o class q

pub chain_back : (is : List PlainInst) (r o : ℕ) (ts xs : List ℕ) → AllByRecursion (IsSomeInt is) ts → OneClass is r o
    → IsSomeAnd (led_to is false xs (o ∷ ts)) (PointsTo is r) → Chains is r (o ∷ ts) xs
chain_back is r o ts [] each c h = absurd h
chain_back is r o ts (x ∷ xs) each (class, p, q, a, b) h =
    let base : pointee_in (form_of is o) ≡ Some q = ap pointee_in b in
    let led : IsSomeAnd (led_from is xs q) (PointsTo is r) = rw base at h in
    (each, by_pointer is r o class p q xs a b led)

pub element_back : (is : List PlainInst) (r o p : ℕ) (ts xs : List ℕ) → IsSomeInt is p
    → AllByRecursion (IsSomeInt is) ts → OneClass is r o → IsSomeAnd (led_to is true xs (o ∷ p ∷ ts)) (PointsTo is r)
    → ChainsByElement is r (o ∷ p ∷ ts) xs
element_back is r o p ts [] i each c h = absurd h
element_back is r o p ts (x ∷ []) i each c h = absurd h
element_back is r o p ts (x ∷ y ∷ xs) i each (class, s, q, a, b) h =
    let base : pointee_in (form_of is o) ≡ Some q = ap pointee_in b in
    let led : IsSomeAnd (led_from is xs q) (PointsTo is r) = rw base at h in
    (i, each, by_pointer is r o class s q xs a b led)
