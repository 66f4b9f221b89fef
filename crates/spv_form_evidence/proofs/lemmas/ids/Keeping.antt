-- What is kept of ids.
use Rattle.std.proofs.Common.{◌≡◌, ◌<◌, ◌+◌, ◌∙◌, ℕ, List, Option, Some, None, refl, sym, subst, inl, inr, arith}
use Rattle.std.specs.Prelude.{slice_get}
use Rattle.std.proofs.lemmas.Bool.{cases_lt, cases_eq}
use Rattle.std.proofs.lemmas.Bool.Decides.{nat_tests}
use Rattle.spv_module.specs.Operand.{PlainInst, result_in}
use Rattle.spv_ids.specs.Definition.{IsDefinedAt}
use Rattle.spv_form_evidence.specs.declared.ids.kept.Kept.{Kept}
use Rattle.spv_form_evidence.specs.ids.inner.Known.{kept, Puts, AreKept, IsFirstBefore, AreFirst}
use Rattle.spv_form_evidence.proofs.lemmas.ids.Rules.{defined_here, result_here}

-- below n, or n
pub below_or : (A : Type 0) (k n : ℕ) → k < n + 1 → (k < n → A) → (k ≡ n → A) → A
below_or A k n h a b = elim (cases_lt k n) [ inl l ↦ a l | inr l ↦ b (omega arith) ]

pub kept_on : (bound : ℕ) (P Q : ℕ → Option ℕ → Type 0) (l : Kept) → AreKept bound P l
    → ((x : ℕ) → x < bound → P x (kept l x) → Q x (kept l x)) → AreKept bound Q l
kept_on bound P Q l a f = record { same = a.same; each = λ x b. f x b (a.each x b) }

pub kept_put : (bound : ℕ) (P Q : ℕ → Option ℕ → Type 0) (l m : Kept) (id n : ℕ) → Puts l m id n → AreKept bound P l
    → ((x : ℕ) → (x ≡ id → ⊥) → P x (kept l x) → Q x (kept l x)) → Q id (Some n)
    → AreKept bound Q m
kept_put bound P Q l m id n p a f g = record {
  same = p.same ∙ a.same;
  each = λ x b. elim (cases_eq x id) [
    | inl e ↦ let c = a.same in rw e (subst (λ o. Q id o) (sym (p.here (omega arith))) g)
    | inr e ↦ subst (λ o. Q x o) (sym (p.others x e)) (f x e (a.each x b))
  ];
}

-- First definitions: one instruction more.

first_other : (is : List PlainInst) (n x : ℕ) (o : Option ℕ) → ¬ (IsDefinedAt is x n) → IsFirstBefore is n x o
    → IsFirstBefore is (n + 1) x o
first_other is n x None h f = λ k l d. below_or ⊥ k n l (λ b. f k b d) (λ e. h (subst (λ m. IsDefinedAt is x m) e d))
first_other is n x (Some m) h f = let b = f.below in record { below = omega arith; there = f.there; first = f.first }

first_more : (is : List PlainInst) (n x m : ℕ) → IsFirstBefore is n x (Some m) → IsFirstBefore is (n + 1) x (Some m)
first_more is n x m f = let b = f.below in record { below = omega arith; there = f.there; first = f.first }

first_here : (is : List PlainInst) (n x : ℕ) → IsDefinedAt is x n → IsFirstBefore is n x None
    → IsFirstBefore is (n + 1) x (Some n)
first_here is n x d f = record { below = omega arith; there = d; first = f }

-- a result of which nothing is kept
pub first_put : (bound : ℕ) (is : List PlainInst) (n id : ℕ) (i : PlainInst) (l m : Kept) → slice_get is n ≡ Some i
    → result_in i.operands ≡ Some id → (id < l.bound) × (kept l id ≡ None) → Puts l m id n → AreFirst bound is n l
    → AreFirst bound is (n + 1) m
first_put bound is n id i l m t r h p a =
    let c = a.same in
    let w = h.0 in
    let f : IsFirstBefore is n id None = subst (λ o. IsFirstBefore is n id o) h.1 (a.each id (omega arith)) in
    kept_put bound (IsFirstBefore is n) (IsFirstBefore is (n + 1)) l m id n p a
    (λ x e p. first_other is n x (kept l x)
    (λ d. let q = result_here is n x i t d in let s : Some x ≡ Some id = sym q ∙ r in e cc) p)
    (first_here is n id (defined_here is n id i t r) f)

some_more : (is : List PlainInst) (n x : ℕ) (o : Option ℕ) → (o ≡ None → ⊥) → IsFirstBefore is n x o
    → IsFirstBefore is (n + 1) x o
some_more is n x None h f = absurd (h refl)
some_more is n x (Some m) h f = first_more is n x m f

-- a result of which something is kept, or that is not below the bound
pub first_kept : (bound : ℕ) (is : List PlainInst) (n id : ℕ) (i : PlainInst) (l : Kept) → slice_get is n ≡ Some i
    → result_in i.operands ≡ Some id → ((id < l.bound) × (kept l id ≡ None) → ⊥) → AreFirst bound is n l
    → AreFirst bound is (n + 1) l
first_kept bound is n id i l t r h a =
    let c = a.same in
    kept_on bound (IsFirstBefore is n) (IsFirstBefore is (n + 1)) l a
    (λ x b p. elim (cases_eq x id) [
      | inl e ↦ some_more is n x (kept l x) (λ q. h (omega arith, rw (← e) q)) p
      | inr e ↦ first_other is n x (kept l x)
          (λ d. let q = result_here is n x i t d in let s : Some x ≡ Some id = sym q ∙ r in e cc) p
    ])

pub first_no_result : (bound : ℕ) (is : List PlainInst) (n : ℕ) (i : PlainInst) (l : Kept) → slice_get is n ≡ Some i
    → result_in i.operands ≡ None → AreFirst bound is n l → AreFirst bound is (n + 1) l
first_no_result bound is n i l t r a =
    kept_on bound (IsFirstBefore is n) (IsFirstBefore is (n + 1)) l a
    (λ x b p. first_other is n x (kept l x)
    (λ d. let q = result_here is n x i t d in let s : Some x ≡ None = sym q ∙ r in cc) p)

-- what is kept is kept of an id below the bound
pub kept_within : (l : Kept) (x m : ℕ) → kept l x ≡ Some m → x < l.bound
kept_within l x m e = elim (cases_lt x l.bound) [
  | inl h ↦ h
  | inr h ↦ let p : kept l x ≡ None = grind (arith, nat_tests) in cc
]
