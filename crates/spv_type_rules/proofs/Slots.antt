-- Slots with one declaration more.
use Rattle.std.proofs.Common.{◌≡◌, ◌≢◌, ◌∙◌, ◌<◌, ◌⊎◌, ℕ, zero, suc, List, [], ◌∷◌, Option, Some, None, refl, sym, ap}
use Rattle.std.proofs.Common.{subst, inl, inr, length, arith}
use Rattle.std.specs.Prelude.{slice_get, IsSomeAnd, MatchOption, Vec}
use Rattle.std.specs.Global.{Global}
use Rattle.std.proofs.Math.ListN.{set, length-set}
use Rattle.std.proofs.lemmas.Bool.{cases_eq, cases_order}
use Rattle.spv_module.specs.Operand.{PlainInst}
use Rattle.spv_module.specs.Module.{plain_inst}
use Rattle.spv_type_rules.specs.declared.repeat.Slot.{Slot}
use Rattle.spv_type_rules.specs.inner.Repeat.{AreAlike}
use Rattle.spv_type_rules.specs.inner.Print.{fingerprint_of}
use Rattle.spv_type_rules.specs.inner.Slots.{IsFree, HoldsAlike, IsFreeAt, IsAlikeAt, IsReachedIn, first_in, end_after}
use Rattle.spv_type_rules.specs.inner.Key.{key_of}
use Rattle.spv_type_rules.specs.inner.Seen.{HasKey, IsNearIn, IsFarFrom, IsNear, IsFar}
use Rattle.spv_type_rules.proofs.Keys.{same_key}

set_here : (l : List Slot) (n : ℕ) (v : Slot) → n < length l → slice_get (set l n v) n ≡ Some v
set_here [] n v h = absurd (omega arith)
set_here (x ∷ xs) zero v h = refl
set_here (x ∷ xs) (suc n) v h = set_here xs n v (omega arith)

set_past : (l : List Slot) (n k : ℕ) (v : Slot) → k ≢ n → slice_get (set l n v) k ≡ slice_get l k
set_past [] n k v ne = refl
set_past (x ∷ xs) zero zero v ne = absurd (ne refl)
set_past (x ∷ xs) zero (suc k) v ne = refl
set_past (x ∷ xs) (suc n) zero v ne = refl
set_past (x ∷ xs) (suc n) (suc k) v ne = set_past xs n k v (λ e. ne (ap suc e))

-- a slot that is free holds nothing
free_of : {A : Type 0} (x : Option A) (P : A → Type 0) → MatchOption x (Unit {0}) (λ _. ⊥) → IsSomeAnd x P → ⊥
free_of None P f h = h
free_of (Some y) P f h = f

free_holds : (i : PlainInst) (o : Option Slot) → IsSomeAnd o IsFree → IsSomeAnd o (HoldsAlike i) → ⊥
free_holds i None f h = h
free_holds i (Some s) f h = free_of s.inst (λ j. (s.fingerprint ≡ fingerprint_of i) × AreAlike i (plain_inst j.now)) f h

pub free_within : (l : List Slot) (p : ℕ) → IsFreeAt l p → p < length l
free_within [] p h = absurd h
free_within (x ∷ xs) zero h = omega arith
free_within (x ∷ xs) (suc p) h = let w = free_within xs p h in omega arith

-- what is alike to one is alike to the other
more : {A : Type 0} (x : Option A) (P Q : A → Type 0) → ((y : A) → P y → Q y) → IsSomeAnd x P → IsSomeAnd x Q
more None P Q f h = h
more (Some y) P Q f h = f y h

same_print : (i j : PlainInst) → AreAlike i j → fingerprint_of i ≡ fingerprint_of j
same_print i j a = rw (a.0, a.1) refl

holds_other : (i j : PlainInst) (s : Slot) → AreAlike i j → HoldsAlike j s → HoldsAlike i s
holds_other i j s a h =
    more s.inst (λ k. (s.fingerprint ≡ fingerprint_of j) × AreAlike j (plain_inst k.now))
    (λ k. (s.fingerprint ≡ fingerprint_of i) × AreAlike i (plain_inst k.now))
    (λ k e. (e.0 ∙ sym (same_print i j a), (a.0 ∙ e.1.0, a.1 ∙ e.1.1)))
    h

near_in : (slots : List Slot) (first end : ℕ) (i j : PlainInst) → AreAlike i j → IsNearIn slots first end j
    → IsNearIn slots first end i
near_in slots first end i j a h = record {
  place = h.place;
  from = h.from;
  below = h.below;
  full = h.full;
  alike = more (slice_get slots h.place) (HoldsAlike j) (HoldsAlike i) (λ s. holds_other i j s a) h.alike;
}

pub near_other : (slots : List Slot) (i j : PlainInst) → AreAlike i j → IsNear slots j → IsNear slots i
near_other slots i j a h =
    subst (λ (f : ℕ). IsNearIn slots (first_in (length slots) f)
    (end_after (length slots) (first_in (length slots) f)) i) (sym (same_print i j a))
    (near_in slots (first_in (length slots) (fingerprint_of j))
    (end_after (length slots) (first_in (length slots) (fingerprint_of j))) i j a h)

-- a free slot takes a declaration
free_after : (l : List Slot) (at q : ℕ) (v : Slot) → at < length l → (IsFree v → ⊥) → (IsFreeAt l q → ⊥)
    → (q ≡ at) ⊎ (q ≡ at → ⊥) → IsFreeAt (set l at v) q → ⊥
free_after l at q v w taken h (inl e) f =
    let s : slice_get (set l at v) q ≡ Some v = rw e (set_here l at v w) in
    taken (subst (λ (o : Option Slot). IsSomeAnd o IsFree) s f)
free_after l at q v w taken h (inr e) f = h (subst (λ (o : Option Slot). IsSomeAnd o IsFree) (set_past l at q v e) f)

not_free_after : (l : List Slot) (at q : ℕ) (v : Slot) → at < length l → (IsFree v → ⊥) → (IsFreeAt l q → ⊥)
    → IsFreeAt (set l at v) q → ⊥
not_free_after l at q v w taken h = free_after l at q v w taken h (cases_eq q at)

alike_past : (l : List Slot) (at p : ℕ) (v : Slot) (i : PlainInst) → p ≢ at → IsAlikeAt l i p
    → IsAlikeAt (set l at v) i p
alike_past l at p v i e h = subst (λ (o : Option Slot). IsSomeAnd o (HoldsAlike i)) (sym (set_past l at p v e)) h

alike_here : (l : List Slot) (at : ℕ) (v : Slot) (i : PlainInst) → at < length l → HoldsAlike i v
    → IsAlikeAt (set l at v) i at
alike_here l at v i w h = subst (λ (o : Option Slot). IsSomeAnd o (HoldsAlike i)) (sym (set_here l at v w)) h

-- what a slot holds then: what it held, or that declaration
alike_cases : (l : List Slot) (at p : ℕ) (v : Slot) (i : PlainInst) → at < length l → (p ≡ at) ⊎ (p ≡ at → ⊥)
    → IsAlikeAt (set l at v) i p → HoldsAlike i v ⊎ IsAlikeAt l i p
alike_cases l at p v i w (inl e) h =
    let s : slice_get (set l at v) p ≡ Some v = rw e (set_here l at v w) in
    inl (subst (λ (o : Option Slot). IsSomeAnd o (HoldsAlike i)) s h)
alike_cases l at p v i w (inr e) h =
    inr (subst (λ (o : Option Slot). IsSomeAnd o (HoldsAlike i)) (set_past l at p v e) h)

pub alike_before : (l : List Slot) (at p : ℕ) (v : Slot) (i : PlainInst) → at < length l → IsAlikeAt (set l at v) i p
    → HoldsAlike i v ⊎ IsAlikeAt l i p
alike_before l at p v i w h = alike_cases l at p v i w (cases_eq p at) h

near_set : (l : List Slot) (first end at : ℕ) (v : Slot) (i : PlainInst) → at < length l → IsFreeAt l at
    → (IsFree v → ⊥) → IsNearIn l first end i → IsNearIn (set l at v) first end i
near_set l first end at v i w f taken h = record {
  place = h.place;
  from = h.from;
  below = h.below;
  full = λ q a b. not_free_after l at q v w taken (h.full q a b);
  alike =
      let e : h.place ≢ at = λ e. free_holds i (slice_get l at) f (subst (λ (p : ℕ). IsAlikeAt l i p) e h.alike) in
      alike_past l at h.place v i e h.alike;
}

pub near_after : (l : List Slot) (at : ℕ) (v : Slot) (i : PlainInst) → at < length l → IsFreeAt l at → (IsFree v → ⊥)
    → IsNear l i → IsNear (set l at v) i
near_after l at v i w f taken h =
    subst (λ (n : ℕ). IsNearIn (set l at v) (first_in n (fingerprint_of i))
    (end_after n (first_in n (fingerprint_of i))) i) (sym (length-set l at v))
    (near_set l (first_in (length l) (fingerprint_of i))
    (end_after (length l) (first_in (length l) (fingerprint_of i))) at v i w f taken h)

-- that declaration is near
near_new : (l : List Slot) (first end at : ℕ) (v : Slot) (i : PlainInst) → at < length l → (IsFree v → ⊥)
    → HoldsAlike i v → IsReachedIn l first end i at → IsNearIn (set l at v) first end i
near_new l first end at v i w taken h r = record {
  place = at;
  from = r.from;
  below = r.below;
  full = λ q a b. not_free_after l at q v w taken (r.others q a b).0;
  alike = alike_here l at v i w h;
}

pub new_near : (l : List Slot) (at : ℕ) (v : Slot) (i : PlainInst) → at < length l → (IsFree v → ⊥) → HoldsAlike i v
    → IsReachedIn l (first_in (length l) (fingerprint_of i))
    (end_after (length l) (first_in (length l) (fingerprint_of i))) i at → IsNear (set l at v) i
new_near l at v i w taken h r =
    subst (λ (n : ℕ). IsNearIn (set l at v) (first_in n (fingerprint_of i))
    (end_after n (first_in n (fingerprint_of i))) i) (sym (length-set l at v))
    (near_new l (first_in (length l) (fingerprint_of i))
    (end_after (length l) (first_in (length l) (fingerprint_of i))) at v i w taken h r)

-- where a free slot is reached, nothing that is alike was kept
pub not_near : (l : List Slot) (first end at : ℕ) (i : PlainInst) → IsReachedIn l first end i at → IsFreeAt l at
    → IsNearIn l first end i → ⊥
not_near l first end at i r f h = elim (cases_order h.place at) [
  | inl e ↦ free_holds i (slice_get l at) f (subst (λ (p : ℕ). IsAlikeAt l i p) e h.alike)
  | inr o ↦ elim o [
    | inl b ↦ (r.others h.place h.from b).1 h.alike
    | inr b ↦ h.full at r.from b f
  ]
]

far_set : (l : List Slot) (first end at : ℕ) (v : Slot) (others : List (Vec ℕ Global)) (i : PlainInst) → at < length l
    → (IsFree v → ⊥) → IsFarFrom l first end others i → IsFarFrom (set l at v) first end others i
far_set l first end at v others i w taken h =
    record { full = λ q a b. not_free_after l at q v w taken (h.full q a b); kept = h.kept }

pub far_after : (l : List Slot) (at : ℕ) (v : Slot) (others : List (Vec ℕ Global)) (i : PlainInst) → at < length l
    → (IsFree v → ⊥) → IsFar l others i → IsFar (set l at v) others i
far_after l at v others i w taken h =
    subst (λ (n : ℕ). IsFarFrom (set l at v) (first_in n (fingerprint_of i))
    (end_after n (first_in n (fingerprint_of i))) others i) (sym (length-set l at v))
    (far_set l (first_in (length l) (fingerprint_of i))
    (end_after (length l) (first_in (length l) (fingerprint_of i))) at v others i w taken h)

pub far_other : (slots : List Slot) (others : List (Vec ℕ Global)) (i j : PlainInst) → AreAlike i j
    → IsFar slots others j → IsFar slots others i
far_other slots others i j a h =
    let e = same_print i j a in
    let k : HasKey (key_of i) others = subst (λ (k : List ℕ). HasKey k others) (sym (same_key i j a)) h.kept in
    let g : IsFarFrom slots (first_in (length slots) (fingerprint_of j))
    (end_after (length slots) (first_in (length slots) (fingerprint_of j))) others i =
    record { full = h.full; kept = k } in
    subst (λ (f : ℕ). IsFarFrom slots (first_in (length slots) f)
    (end_after (length slots) (first_in (length slots) f)) others i) (sym e) g
