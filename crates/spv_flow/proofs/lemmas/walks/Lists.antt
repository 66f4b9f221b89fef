-- Laws of lists.
use Rattle.std.proofs.Common.{◌≡◌, ◌⊎◌, ◌++◌, ℕ, zero, suc, List, [], ◌∷◌, refl, sym, ap, subst, inl, inr, length, take}
use Rattle.std.proofs.Common.{◌∙◌, arith}
use Rattle.std.specs.Prelude.{Any, All}
use Rattle.std.proofs.Math.Seq.{take-append_seam}

module _ {A : Type 0} where
  pub any_cons : (P : A → Type 0) (x : A) (xs : List A) → Any P (x ∷ xs) → P x ⊎ Any P xs
  any_cons P x xs (zero, y, lt, e, p) = inl (subst P (sym e) p)
  any_cons P x xs (suc k, y, lt, e, p) = inr (k, y, omega (arith, lt), e, p)

  pub any_head : (P : A → Type 0) (x : A) (xs : List A) → P x → Any P (x ∷ xs)
  any_head P x xs p = (0, x, omega arith, refl, p)

  pub any_tail : (P : A → Type 0) (x : A) (xs : List A) → Any P xs → Any P (x ∷ xs)
  any_tail P x xs (k, y, lt, e, p) = (suc k, y, omega (arith, lt), e, p)

  pub any_none : (P : A → Type 0) → ¬ (Any P [])
  any_none P (k, y, lt, e, p) = omega (arith, lt)

  pub any_cases : (P : A → Type 0) (xs ys : List A) → Any P (xs ++ ys) → Any P xs ⊎ Any P ys
  any_cases P [] ys a = inr a
  any_cases P (x ∷ xs) ys a = elim (any_cons P x (xs ++ ys) a) [
    | inl p ↦ inl (any_head P x xs p)
    | inr r ↦ elim (any_cases P xs ys r) [ inl l ↦ inl (any_tail P x xs l) | inr s ↦ inr s ]
  ]

  pub any_left : (P : A → Type 0) (xs ys : List A) → Any P xs → Any P (xs ++ ys)
  any_left P [] ys a = absurd (any_none P a)
  any_left P (x ∷ xs) ys a = elim (any_cons P x xs a) [
    | inl p ↦ any_head P x (xs ++ ys) p
    | inr r ↦ any_tail P x (xs ++ ys) (any_left P xs ys r)
  ]

  pub any_right : (P : A → Type 0) (xs ys : List A) → Any P ys → Any P (xs ++ ys)
  any_right P [] ys a = a
  any_right P (x ∷ xs) ys a = any_tail P x (xs ++ ys) (any_right P xs ys a)

  pub all_head : (P : A → Type 0) (x : A) (xs : List A) → All P (x ∷ xs) → P x
  all_head P x xs a = a 0 x (omega arith)

  pub all_tail : (P : A → Type 0) (x : A) (xs : List A) → All P (x ∷ xs) → All P xs
  all_tail P x xs a = λ k d lt. a (suc k) d (omega (arith, lt))

  pub all_cons : (P : A → Type 0) (x : A) (xs : List A) → P x → All P xs → All P (x ∷ xs)
  all_cons P x xs p a zero d lt = p
  all_cons P x xs p a (suc k) d lt = a k d (omega (arith, lt))

  heads : (x y : A) (xs ys : List A) → x ∷ xs ≡ y ∷ ys → (x ≡ y) × (xs ≡ ys)
  heads x y xs ys e = (cc, cc)

  -- a list divides at the first element of a sort in one way
  pub one_division : (P : A → Type 0) (us vs xs ys : List A) (a b : A) → us ++ (a ∷ xs) ≡ vs ++ (b ∷ ys)
      → All (λ x. ¬ (P x)) us → All (λ x. ¬ (P x)) vs → P a → P b → (a ≡ b) × (xs ≡ ys)
  one_division P [] [] xs ys a b e nu nv p q = heads a b xs ys e
  one_division P [] (v ∷ vs) xs ys a b e nu nv p q = (
      let h = heads a v xs (vs ++ (b ∷ ys)) e in
      absurd (all_head (λ x. ¬ (P x)) v vs nv (subst P h.0 p)))
  one_division P (u ∷ us) [] xs ys a b e nu nv p q = (
      let h = heads u b (us ++ (a ∷ xs)) ys e in
      absurd (all_head (λ x. ¬ (P x)) u us nu (subst P (sym h.0) q)))
  one_division P (u ∷ us) (v ∷ vs) xs ys a b e nu nv p q = (
      let h = heads u v (us ++ (a ∷ xs)) (vs ++ (b ∷ ys)) e in
      one_division P us vs xs ys a b h.1 (all_tail (λ x. ¬ (P x)) u us nu) (all_tail (λ x. ¬ (P x)) v vs nv) p q)

-- a part that is as long as it was, in its place
pub taken : {A : Type 0} → (xs ys : List A) (n : ℕ) → n ≡ length xs → take n (xs ++ ys) ≡ xs
taken xs ys n e = ap (λ (k : ℕ). take k (xs ++ ys)) e ∙ take-append_seam xs ys
