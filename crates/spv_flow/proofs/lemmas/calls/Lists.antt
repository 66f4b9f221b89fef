-- Laws of lists.
use Rattle.std.proofs.Common.{◌≡◌, ◌<◌, ◌≤◌, ◌+◌, ◌⊎◌, ◌++◌, ◌∙◌, ℕ, zero, suc, List, [], ◌∷◌, refl, sym, ap, inl, inr}
use Rattle.std.proofs.Common.{Option, Some, None, Bool, true, map, filter, length, get_or, arith}
use Rattle.std.specs.Prelude.{slice_get, option_map}
use Rattle.std.proofs.lemmas.Bool.{cases_Bool, cases_lt}
use Rattle.std.proofs.lemmas.Option.{slice_get-map, slice_get_read, slice_get-get_or, slice_get_within, same_Some}

module _ {A : Type 0} where
  -- an element of a list with one more at its end
  pub pushed_cases : (xs : List A) (y : A) (k : ℕ) (x : A) → slice_get (xs ++ y ∷ []) k ≡ Some x
      → (slice_get xs k ≡ Some x) ⊎ ((k ≡ length xs) × (y ≡ x))
  pushed_cases [] y zero x h = inr (refl, cc)
  pushed_cases [] y (suc k) x h = cc
  pushed_cases (z ∷ xs) y zero x h = inl h
  pushed_cases (z ∷ xs) y (suc k) x h = elim (pushed_cases xs y k x h) [ inl g ↦ inl g | inr g ↦ inr (ap suc g.0, g.1) ]

  pub pushed_keeps : (xs : List A) (y : A) (k : ℕ) (x : A) → slice_get xs k ≡ Some x
      → slice_get (xs ++ y ∷ []) k ≡ Some x
  pushed_keeps [] y k x h = cc
  pushed_keeps (z ∷ xs) y zero x h = h
  pushed_keeps (z ∷ xs) y (suc k) x h = pushed_keeps xs y k x h

  pub pushed_last : (xs : List A) (y : A) → slice_get (xs ++ y ∷ []) (length xs) ≡ Some y
  pushed_last [] y = refl
  pushed_last (z ∷ xs) y = pushed_last xs y

  filtered_true : (p : A → Bool) (z : A) (xs ys : List A) (k : ℕ) (x : A) → p z ≡ true → slice_get (z ∷ ys) k ≡ Some x
      → ((j : ℕ) → slice_get ys j ≡ Some x → (i : ℕ) × (slice_get xs i ≡ Some x) × (p x ≡ true))
      → (j : ℕ) × (slice_get (z ∷ xs) j ≡ Some x) × (p x ≡ true)
  filtered_true p z xs ys zero x t h f = (zero, h, (let e : z ≡ x = cc in rw (← e) t))
  filtered_true p z xs ys (suc k) x t h f = let r = f k h in (suc r.0, r.1, r.2)

  -- an element that passes a test
  pub filtered : (p : A → Bool) (xs : List A) (k : ℕ) (x : A) → slice_get (filter p xs) k ≡ Some x
      → (j : ℕ) × (slice_get xs j ≡ Some x) × (p x ≡ true)
  filtered p [] k x h = cc
  filtered p (z ∷ xs) k x h = elim (cases_Bool (p z)) [
    | inl t ↦ filtered_true p z xs (filter p xs) k x t (rw t at h) (λ j g. filtered p xs j x g)
    | inr n ↦ (let h' = rw n at h in let r = filtered p xs k x h' in (suc r.0, r.1, r.2))
  ]

-- an element that was read
pub found : {A : Type 0} (xs : List A) (k : ℕ) (x : A) → k < length xs → x ≡ get_or xs k x → slice_get xs k ≡ Some x
found xs k x l e = slice_get_read xs (length xs) k x refl l e

-- what holds of each element so far, and of one more
pub each_more : {A : Type 0} (P : ℕ → A → Type 0) (xs : List A) (i : ℕ) (d : A) → i < length xs
    → ((k : ℕ) (x : A) → k < i → slice_get xs k ≡ Some x → P k x) → P i (get_or xs i d)
    → (k : ℕ) (x : A) → k < i + 1 → slice_get xs k ≡ Some x → P k x
each_more P xs i d within before here k x lt there = elim (cases_lt k i) [
  | inl less ↦ before k x less there
  | inr more ↦ (
      let e : k ≡ i = omega (arith, lt, more) in
      let s : get_or xs i d ≡ x = same_Some (get_or xs i d) x (sym (slice_get-get_or xs i d within) ∙ rw e at there) in
      rw (e, ← s) here)
]

pub each_all : {A : Type 0} (P : ℕ → A → Type 0) (xs : List A) (i : ℕ) → length xs ≤ i
    → ((k : ℕ) (x : A) → k < i → slice_get xs k ≡ Some x → P k x) → (k : ℕ) (x : A) → slice_get xs k ≡ Some x → P k x
each_all P xs i end before k x there = let w = slice_get_within xs k x there in before k x (omega (arith, w, end)) there

-- an element that was mapped
option_mapped : {A B : Type 0} (v : A → B) (o : Option A) (y : B) → option_map v o ≡ Some y
    → (x : A) × (o ≡ Some x) × (v x ≡ y)
option_mapped v None y h = cc
option_mapped v (Some x) y h = (x, refl, cc)

pub map_get : {A B : Type 0} (v : A → B) (xs : List A) (k : ℕ) (y : B) → slice_get (map v xs) k ≡ Some y
    → (x : A) × (slice_get xs k ≡ Some x) × (v x ≡ y)
map_get v xs k y h = option_mapped v (slice_get xs k) y (rw slice_get-map at h)
