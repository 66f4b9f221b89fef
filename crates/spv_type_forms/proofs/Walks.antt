-- Reach as a function says the same.
use Rattle.std.proofs.Common.{◌≡◌, ℕ, ◌<◌, List, [], ◌∷◌, Option, Some, None, ◌↔◌, refl, nat_lt, Bool, true, false}
use Rattle.std.proofs.Common.{if◌then◌else◌, option_and_then}
use Rattle.std.proofs.lemmas.Bool.{ltb-true, lt-ltb}
use Rattle.std.proofs.lemmas.Option.{option_and_then_some, none-some}
use Rattle.spv_module.specs.Operand.{PlainInst}
use Rattle.spv_type_forms.specs.declared.form.Form.{Form}
use Rattle.spv_type_forms.specs.declared.form.Form.TheVariants as form
use Rattle.spv_type_forms.specs.Form.{form_of}
use Rattle.spv_type_forms.specs.Parts.{part_of, count_of}
use Rattle.spv_type_forms.specs.inner.Parts.{inner_part_of, element_in}
use Rattle.spv_type_forms.specs.Reach.{ReachesType, AreWithin}
use Rattle.spv_type_forms.specs.inner.Walk.{walk, choice, choice_in}

guarded : (b : Bool) (k n u : ℕ) (p : Option ℕ) → nat_lt k n ≡ b → (if b then p else None) ≡ Some u
    → (k < n) × (p ≡ Some u)
guarded true k n u p e h = (ltb-true k n e, h)
guarded false k n u p e h = absurd (none-some u h)

pub walked : (is : List PlainInst) (ks : List ℕ) (t u : ℕ) → walk is ks t ≡ Some u
    → (AreWithin is t ks) × (ReachesType is t ks u)
walked is [] t u e = (AreWithin.none t, rw (let s : t ≡ u = cc in s) (ReachesType.itself u))
walked is (k ∷ ks) t u e =
    option_and_then_some (λ v. walk is ks v) (inner_part_of is t k) u e (λ v i w.
    option_and_then_some (λ n. if nat_lt k n then part_of is t k else None) (count_of is t) v i (λ n c g.
    let p = guarded (nat_lt k n) k n v (part_of is t k) refl g in
    let r = walked is ks v u w in
    (AreWithin.more t k v n ks c p.0 p.1 r.0, ReachesType.by_part t k v u ks p.1 r.1)))

-- the first index of those that are within
inner : (is : List PlainInst) (t k : ℕ) (ks : List ℕ) → AreWithin is t (k ∷ ks)
    → (u : ℕ) × (inner_part_of is t k ≡ Some u) × (part_of is t k ≡ Some u) × AreWithin is u ks
inner is t k ks (AreWithin.more _ _ u n _ c l p w) =
    let b : nat_lt k n ≡ true = lt-ltb k n l in
    let e : inner_part_of is t k ≡ Some u = rw (c, b) p in
    (u, e, p, w)

pub reaching : (is : List PlainInst) (ks : List ℕ) (t u : ℕ) → AreWithin is t ks → ReachesType is t ks u
    → walk is ks t ≡ Some u
reaching is [] t u w (ReachesType.itself _) = refl
reaching is (k ∷ ks) t u w (ReachesType.by_part _ _ v _ _ p r) =
    let i = inner is t k ks w in
    let same : i.0 ≡ v = cc in
    rw i.1 (reaching is ks i.0 u i.3 (rw same r))

-- the walk decides
pub walk_decides : (is : List PlainInst) (ks : List ℕ) (t u : ℕ)
    → (walk is ks t ≡ Some u) ↔ ((AreWithin is t ks) × (ReachesType is t ks u))
walk_decides is ks t u = (walked is ks t u, λ p. reaching is ks t u p.0 p.1)

-- an index of an access chain chooses an array's elements, whatever it is
chosen_by : (is : List PlainInst) (t x e : ℕ) (o : Option Form) → form_of is t ≡ o
    → option_and_then element_in o ≡ Some e → option_and_then (choice_in is t x) o ≡ Some e
chosen_by is t x e (Some (form.Array a l)) f h =
    let p : part_of is t 0 ≡ Some a = rw f refl in
    let q : Some a ≡ Some e = h in rw (p, q) refl
chosen_by is t x e (Some other) f h = cc
chosen_by is t x e None f h = cc

pub element_chosen : (is : List PlainInst) (t x e : ℕ) → option_and_then element_in (form_of is t) ≡ Some e
    → choice is t x ≡ Some e
element_chosen is t x e h = chosen_by is t x e (form_of is t) refl h
