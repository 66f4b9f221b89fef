-- What is kept of answers, with one answer more.
use Rattle.std.proofs.Common.{◌≡◌, ◌≢◌, ◌∙◌, ◌<◌, ◌↔◌, ◌⊎◌, ℕ, zero, suc, List, refl, sym, ap, inl, inr, Some, None}
use Rattle.std.proofs.Common.{Bool, true, false, IsTrue, length, get_or, nat_eq, arith}
use Rattle.std.specs.Prelude.{slice_get, nat_lt}
use Rattle.std.specs.BTreeMap.{BTreeMap, get, Updates, IsEmpty}
use Rattle.std.specs.Ordering.{nat_cmp, ordering_then, is_eq}
use Rattle.std.specs.declared.cmp.Ordering.{Ordering}
use Rattle.std.specs.declared.cmp.Ordering.TheVariants.{Less, Equal, Greater}
use Rattle.std.proofs.Math.ListN.{replicate}
use Rattle.std.proofs.lemmas.Bool.{cases_eq, cases_order, ltb-true}
use Rattle.std.proofs.lemmas.Bool.Decides.{nat_tests}
use Rattle.std.proofs.lemmas.Option.{slice_get_read}
use Rattle.spv_capabilities.specs.declared.memo.Answer.{Answer}
use Rattle.spv_capabilities.specs.declared.memo.Enumerated.{Enumerated}
use Rattle.spv_capabilities.specs.declared.memo.Answer.TheVariants.{Unknown}
use Rattle.spv_capabilities.specs.inner.Known.{IsAnswer, pair_cmp}

-- numbers that are not equal do not compare so, and nor do pairs
apart : (x y : ℕ) → x ≢ y → is_eq (nat_cmp x y) ≡ false
apart x y ne = elim (cases_order x y) [
  | inl e ↦ absurd (ne e)
  | inr r ↦ elim r [
    | inl l ↦ let t : nat_lt x y ≡ true = grind (arith, nat_tests) in rw t refl
    | inr g ↦
        let t : nat_lt x y ≡ false = grind (arith, nat_tests) in
        let u : nat_eq x y ≡ false = grind (arith, nat_tests) in
        rw (t, u) refl
  ]
]

first_apart : (o p : Ordering) → is_eq o ≡ false → is_eq (ordering_then o p) ≡ false
first_apart Less p h = refl
first_apart Equal p h = absurd (let no : true ≡ false = h in cc)
first_apart Greater p h = refl

second_apart : (o p : Ordering) → is_eq p ≡ false → is_eq (ordering_then o p) ≡ false
second_apart Less p h = refl
second_apart Equal p h = h
second_apart Greater p h = refl

-- of pairs, with one pair more
pair_at : (Q : ℕ → ℕ → Type 0) (m n : BTreeMap (ℕ × ℕ) Bool) (k v l w : ℕ) (b a : Bool)
    → ((x y : ℕ) (c : Bool) → get pair_cmp m (x, y) ≡ Some c → IsTrue c ↔ Q x y) → Updates pair_cmp m n (k, v) (Some b)
    → IsTrue b ↔ Q k v
    → get pair_cmp n (l, w) ≡ Some a → (k ≡ l) ⊎ (k ≡ l → ⊥) → (v ≡ w) ⊎ (v ≡ w → ⊥) → IsTrue a ↔ Q l w
pair_at Q m n k v l w b a old u new s (inr p) q =
    old l w a (sym (u.2 (l, w) (first_apart (nat_cmp k l) (nat_cmp v w) (apart k l p))) ∙ s)
pair_at Q m n k v l w b a old u new s (inl p) (inr q) =
    old l w a (sym (u.2 (l, w) (second_apart (nat_cmp k l) (nat_cmp v w) (apart v w q))) ∙ s)
pair_at Q m n k v l w b a old u new s (inl p) (inl q) =
    let s' : get pair_cmp n (k, v) ≡ Some a = rw (p, q) s in
    let t : b ≡ a = let x : Some b ≡ Some a = sym u.1 ∙ s' in cc in
    rw (← p, ← q, ← t) new

pub pairs_more : (Q : ℕ → ℕ → Type 0) (m n : BTreeMap (ℕ × ℕ) Bool) (k v : ℕ) (b : Bool)
    → ((x y : ℕ) (c : Bool) → get pair_cmp m (x, y) ≡ Some c → IsTrue c ↔ Q x y) → Updates pair_cmp m n (k, v) (Some b)
    → IsTrue b ↔ Q k v
    → (x y : ℕ) (c : Bool) → get pair_cmp n (x, y) ≡ Some c → IsTrue c ↔ Q x y
pairs_more Q m n k v b old u new x y c s = pair_at Q m n k v x y b c old u new s (cases_eq k x) (cases_eq v y)

-- what was read of the list
pub kept_at : (l : List Answer) (n : ℕ) (a v : Answer) → true ≡ nat_lt n (length l) → a ≡ get_or l n a → a ≡ v
    → slice_get l n ≡ Some v
kept_at l n a v t e s =
    let w : n < length l = ltb-true n (length l) (sym t) in
    slice_get_read l (length l) n a refl w e ∙ ap Some s

-- nothing is known
read : (n o : ℕ) (a : Answer) → slice_get (replicate n Unknown) o ≡ Some a → Unknown ≡ a
read zero o a h = absurd (let no : None ≡ Some a = h in cc)
read (suc n) zero a h = cc
read (suc n) (suc o) a h = read n o a h

pub unknown_all : (Q R : ℕ → Type 0) (l : List Answer) (n : ℕ) → l ≡ replicate n Unknown → (o : ℕ) (a : Answer)
    → slice_get l o ≡ Some a → IsAnswer a (Q o) (R o)
unknown_all Q R l n e o a h = let s : Unknown ≡ a = read n o a (rw e at h) in rw (← s) tt

pub no_pairs : (Q : ℕ → ℕ → Type 0) (m : BTreeMap (ℕ × ℕ) Bool) → IsEmpty m → (x y : ℕ) (c : Bool)
    → get pair_cmp m (x, y) ≡ Some c → IsTrue c ↔ Q x y
no_pairs Q m e x y c h = let n : get pair_cmp m (x, y) ≡ None = rw e refl in
    absurd (let no : None ≡ Some c = sym n ∙ h in cc)

pub no_recent : (P : Type 0) (n o : ℕ) (e : Enumerated) → slice_get (replicate n None) o ≡ Some (Some e) → P
no_recent P zero o e h = absurd (let no : None ≡ Some (Some e) = h in cc)
no_recent P (suc n) zero e h = absurd (let no : Some None ≡ Some (Some e) = h in cc)
no_recent P (suc n) (suc o) e h = no_recent P n o e h
