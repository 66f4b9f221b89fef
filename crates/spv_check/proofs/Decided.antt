-- What holds or does not, and what does because it cannot be that it does not.
use Rattle.std.proofs.Common.{◌≡◌, ◌<◌, ◌⊎◌, ℕ, zero, suc, List, [], ◌∷◌, Option, Some, None, Bool, true, false, refl}
use Rattle.std.proofs.Common.{sym, ap, subst, inl, inr, arith}
use Rattle.std.specs.Prelude.{IsSomeAnd, MatchOption, IsTrue}
use Rattle.std.specs.List.{AllByRecursion}
use Rattle.std.proofs.lemmas.Bool.{cases_eq, cases_lt}
use Rattle.std.proofs.lemmas.Option.{same_Some}

abbrev pub Decided : Type 0 → Type 0
Decided P = P ⊎ ¬ P

pub held : {P : Type 0} → Decided P → ¬ (¬ P) → P
held (inl p) h = p
held (inr n) h = absurd (h n)

pub anew : {P Q : Type 0} → (P → Q) → (Q → P) → Decided P → Decided Q
anew f g (inl p) = inl (f p)
anew f g (inr n) = inr (λ q. n (g q))

pub both : {P Q : Type 0} → Decided P → Decided Q → Decided (P × Q)
both (inl p) (inl q) = inl (p, q)
both (inl p) (inr n) = inr (λ h. n h.1)
both (inr n) d = inr (λ h. n h.0)

pub three : {P Q R : Type 0} → Decided P → Decided Q → Decided R → Decided (P × Q × R)
three p q r = anew (λ h. (h.0, h.1.0, h.1.1)) (λ h. (h.0, (h.1, h.2))) (both p (both q r))

pub four : {P Q R S : Type 0} → Decided P → Decided Q → Decided R → Decided S → Decided (P × Q × R × S)
four p q r s = anew (λ h. (h.0, h.1.0, h.1.1, h.1.2)) (λ h. (h.0, (h.1, h.2, h.3))) (both p (three q r s))

pub five : {P Q R S T : Type 0} → Decided P → Decided Q → Decided R → Decided S → Decided T
    → Decided (P × Q × R × S × T)
five p q r s t = anew (λ h. (h.0, h.1.0, h.1.1, h.1.2, h.1.3)) (λ h. (h.0, (h.1, h.2, h.3, h.4)))
    (both p (four q r s t))

pub either : {P Q : Type 0} → Decided P → Decided Q → Decided (P ⊎ Q)
either (inl p) d = inl (inl p)
either (inr n) (inl q) = inl (inr q)
either (inr n) (inr m) = inr (λ h. elim h [ inl p ↦ n p | inr q ↦ m q ])

pub opposite : {P : Type 0} → Decided P → Decided (¬ P)
opposite (inl p) = inr (λ n. n p)
opposite (inr n) = inl n

pub given : {P Q : Type 0} → Decided P → Decided Q → Decided (P → Q)
given (inl p) (inl q) = inl (λ x. q)
given (inl p) (inr n) = inr (λ f. n (f p))
given (inr n) d = inl (λ p. absurd (n p))

pub is_true : (b : Bool) → Decided (IsTrue b)
is_true true = inl refl
is_true false = inr (λ h. let e = h in cc)

-- The value of an option, if there is one.

module _ {A : Type 0} where
  pub some_and : (o : Option A) (P : A → Type 0) → ((x : A) → Decided (P x)) → Decided (IsSomeAnd o P)
  some_and None P d = inr (λ h. absurd h)
  some_and (Some x) P d = d x

  pub matched : (o : Option A) (N : Type 0) (P : A → Type 0) → Decided N → ((x : A) → Decided (P x))
      → Decided (MatchOption o N P)
  matched None N P n d = n
  matched (Some x) N P n d = d x

  pub pinned : (o : Option A) (P : A → Type 0) → ((x : A) → Decided (P x)) → Decided ((x : A) × (o ≡ Some x) × P x)
  pinned None P d = inr (λ h. let e = h.1 in cc)
  pinned (Some y) P d = anew (λ p. (y, refl, p)) (λ h. subst P (sym (same_Some y h.0 h.1)) h.2) (d y)

  pub option_same : ((x y : A) → Decided (x ≡ y)) → (o p : Option A) → Decided (o ≡ p)
  option_same d None None = inl refl
  option_same d None (Some y) = inr (λ e. cc)
  option_same d (Some x) None = inr (λ e. cc)
  option_same d (Some x) (Some y) = anew (λ e. ap (λ (z : A). Some z) e) (λ e. same_Some x y e) (d x y)

  pub all_or_not : (P : A → Type 0) → ((x : A) → Decided (P x)) → (xs : List A) → Decided (AllByRecursion P xs)
  all_or_not P d [] = inl tt
  all_or_not P d (x ∷ xs) = both (d x) (all_or_not P d xs)

  pub list_same : ((x y : A) → Decided (x ≡ y)) → (xs ys : List A) → Decided (xs ≡ ys)
  list_same d [] [] = inl refl
  list_same d [] (y ∷ ys) = inr (λ e. cc)
  list_same d (x ∷ xs) [] = inr (λ e. cc)
  list_same d (x ∷ xs) (y ∷ ys) = anew (λ h. let a = h.0 in let b = h.1 in cc) (λ e. (cc, cc))
      (both (d x y) (list_same d xs ys))

pub number_same : (o p : Option ℕ) → Decided (o ≡ p)
number_same = option_same cases_eq

pub numbers_same : (xs ys : List ℕ) → Decided (xs ≡ ys)
numbers_same = list_same cases_eq

-- Numbers below a bound.

module _ (P : ℕ → Type 0) (d : (n : ℕ) → Decided (P n)) where
  pub below : (m : ℕ) → Decided ((n : ℕ) × (n < m) × P n)
  below zero = inr (λ h. let l = h.1 in omega (arith, l))
  below (suc m) = elim (d m) [
    | inl p ↦ inl (m, omega arith, p)
    | inr none ↦ anew (λ h. (h.0, (let l = h.1 in omega (arith, l)), h.2))
        (λ h. elim (cases_lt h.0 m) [
          | inl l ↦ (h.0, l, h.2)
          | inr g ↦ (let l = h.1 in let e : h.0 ≡ m = omega (arith, l, g) in absurd (none (subst P e h.2)))
        ])
        (below m)
  ]

  pub somewhere : (m : ℕ) → ((n : ℕ) → P n → n < m) → Decided ((n : ℕ) × P n)
  somewhere m bound = anew (λ h. (h.0, h.2)) (λ h. (h.0, bound h.0 h.1, h.1)) (below m)

  pub all_below : (m : ℕ) → Decided ((n : ℕ) → n < m → P n)
  all_below zero = inl (λ n l. absurd (omega (arith, l)))
  all_below (suc m) = elim (d m) [
    | inl p ↦ anew (λ f n l. elim (cases_lt n m) [
      | inl k ↦ f n k
      | inr g ↦
          (let e : m ≡ n = omega (arith, l, g) in subst P e p)
    ])
        (λ f n l. f n (omega (arith, l))) (all_below m)
    | inr none ↦ inr (λ f. none (f m (omega arith)))
  ]
