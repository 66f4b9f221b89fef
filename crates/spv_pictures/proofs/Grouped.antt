-- The groups of a list, found place by place.
use Rattle.std.proofs.Common.{◌≡◌, ◌++◌, ◌<◌, ◌≤◌, ◌+◌, ℕ, zero, suc, Bool, true, false, not, cond, List, [], ◌∷◌, map}
use Rattle.std.proofs.Common.{length, take, drop, get_or, flat_map, unwrap_or, slice_get, if◌then◌else◌, refl, sym, ap}
use Rattle.std.proofs.Common.{◌∙◌, append_assoc, arith}
use Rattle.std.specs.List.{before_first, position_or_len}
use Rattle.std.proofs.lemmas.List.{drop_all, drop_more, take-map}
use Rattle.spv_pictures.specs.Function.{groups}
use Rattle.spv_pictures.specs.inner.Adds.{Adds}

pub position_le : {A : Type 0} (p : A → Bool) (xs : List A) → position_or_len p xs ≤ length xs
position_le p [] = omega arith
position_le p (x ∷ xs) = by (p x) (position_le p xs)
  where
    by : (b : Bool) → position_or_len p xs ≤ length xs → cond (not b) (1 + position_or_len p xs) 0 ≤ suc (length xs)
    by true h = omega arith
    by false h = omega arith

pub position-map : {A B : Type 0} (p : B → Bool) (f : A → B) (xs : List A)
    → position_or_len p (map f xs) ≡ position_or_len (λ x. p (f x)) xs
position-map p f [] = refl
position-map p f (x ∷ xs) = ap (λ n. cond (not (p (f x))) (1 + n) 0) (position-map p f xs)

pub before-map : {A B : Type 0} (p : B → Bool) (f : A → B) (xs : List A) (n : ℕ) → position_or_len (λ x. p (f x)) xs ≡ n
    → map f (take n xs) ≡ before_first p (map f xs)
before-map p f xs n e = sym (take-map f n xs) ∙ ap (λ k. take k (map f xs)) (sym e ∙ sym (position-map p f xs))

pub length-before : {A : Type 0} (p : A → Bool) (xs : List A) → length (before_first p xs) ≡ position_or_len p xs
length-before p [] = refl
length-before p (x ∷ xs) = by (p x) (length-before p xs)
  where
    by : (b : Bool) → length (before_first p xs) ≡ position_or_len p xs
        → length (take (cond (not b) (1 + position_or_len p xs) 0) (x ∷ xs)) ≡ cond (not b) (1 + position_or_len p xs) 0
    by true h = refl
    by false h =
        (let q : 1 + position_or_len p xs ≡ suc (position_or_len p xs) = omega arith in
        rw q (ap suc h))

dropped : {A : Type 0} (xs : List A) (i : ℕ) (x : A) → i < length xs → x ≡ get_or xs i x
    → drop i xs ≡ x ∷ drop (i + 1) xs
dropped xs i x h e = drop_more xs i x h ∙ ap (λ y. y ∷ drop (i + 1) xs) (sym e)

-- the first place, counted up to a place so far
pub position_more : {A : Type 0} (p : A → Bool) (xs : List A) (i : ℕ) (x : A) → i < length xs → x ≡ get_or xs i x
    → p x ≡ false
    → position_or_len p xs ≡ i + position_or_len p (drop i xs)
    → position_or_len p xs ≡ (i + 1) + position_or_len p (drop (i + 1) xs)
position_more p xs i x h e n g =
    let d = ap (position_or_len p) (dropped xs i x h e) in
    let f : position_or_len p (drop i xs) ≡ 1 + position_or_len p (drop (i + 1) xs) = d
    ∙ ap (λ b. cond (not b) (1 + position_or_len p (drop (i + 1) xs)) 0) n in
    omega (arith, g, f)

pub position_here : {A : Type 0} (p : A → Bool) (xs : List A) (i : ℕ) (x : A) → i < length xs → x ≡ get_or xs i x
    → p x ≡ true
    → position_or_len p xs ≡ i + position_or_len p (drop i xs) → position_or_len p xs ≡ i
position_here p xs i x h e n g =
    let d = ap (position_or_len p) (dropped xs i x h e) in
    let f : position_or_len p (drop i xs) ≡ 0 = d
    ∙ ap (λ b. cond (not b) (1 + position_or_len p (drop (i + 1) xs)) 0) n in
    omega (arith, g, f)

pub position_end : {A : Type 0} (p : A → Bool) (xs : List A) (i : ℕ) → length xs ≤ i
    → position_or_len p xs ≡ i + position_or_len p (drop i xs) → position_or_len p xs ≡ i
position_end p xs i h g =
    let f : position_or_len p (drop i xs) ≡ 0 = ap (position_or_len p) (drop_all i xs h) in
    omega (arith, g, f)

-- the first group, by its place
module _ {A : Type 0} (begins ends : A → Bool) where
  pub first_group : (xs : List A) (n : ℕ) → position_or_len begins xs ≡ n → n < length xs
      → unwrap_or (slice_get (groups begins ends xs) 0) [] ≡ take (1 + position_or_len ends (drop (n + 1) xs))
      (drop n xs)
  first_group [] n e h = absurd (omega arith)
  first_group (x ∷ xs) n e h = by (begins x) n refl e h (first_group xs)
    where
      by : (b : Bool) (n : ℕ) → begins x ≡ b → cond (not b) (1 + position_or_len begins xs) 0 ≡ n → n < suc (length xs)
          → ((m : ℕ) → position_or_len begins xs ≡ m → m < length xs
          → unwrap_or (slice_get (groups begins ends xs) 0) [] ≡ take (1 + position_or_len ends (drop (m + 1) xs))
          (drop m xs))
          → unwrap_or (slice_get (if b then (x ∷ before_first ends xs)
          ∷ groups begins ends xs else groups begins ends xs) 0) []
          ≡ take (1 + position_or_len ends (drop (n + 1) (x ∷ xs))) (drop n (x ∷ xs))
      by true zero f e h later =
          (let q : 1 + position_or_len ends xs ≡ suc (position_or_len ends xs) = omega arith in
          rw q refl)
      by true (suc n) f e h later = absurd (omega (arith, e))
      by false zero f e h later = absurd (omega (arith, e))
      by false (suc n) f e h later =
          (let q : suc n + 1 ≡ suc (n + 1) = omega arith in
          rw q (later n (omega (arith, e)) (omega arith)))

  pub no_group : (xs : List A) → length xs ≤ position_or_len begins xs → groups begins ends xs ≡ []
  no_group [] h = refl
  no_group (x ∷ xs) h = by (begins x) h (no_group xs)
    where
      by : (b : Bool) → suc (length xs) ≤ cond (not b) (1 + position_or_len begins xs) 0
          → (length xs ≤ position_or_len begins xs → groups begins ends xs ≡ [])
          → (if b then (x ∷ before_first ends xs) ∷ groups begins ends xs else groups begins ends xs) ≡ []
      by true h later = absurd (omega arith)
      by false h later = later (omega arith)

  -- the groups of a list by its first element
  pub group_begins : (x : A) (xs : List A) → begins x ≡ true
      → groups begins ends (x ∷ xs) ≡ (x ∷ before_first ends xs) ∷ groups begins ends xs
  group_begins x xs b =
      ap (λ c. if c then (x ∷ before_first ends xs) ∷ groups begins ends xs else groups begins ends xs) b

  pub group_skipped : (x : A) (xs : List A) → begins x ≡ false → groups begins ends (x ∷ xs) ≡ groups begins ends xs
  group_skipped x xs b =
      ap (λ c. if c then (x ∷ before_first ends xs) ∷ groups begins ends xs else groups begins ends xs) b

-- a part more, and none
pub adds_one : {A : Type 0} (f : A → List ℕ) (x : A) (xs ys : List A) (old new : List ℕ) → xs ≡ x ∷ ys
    → new ≡ old ++ f x → Adds f xs ys old new
adds_one f x xs ys old new e n =
    let a : new ++ flat_map f ys ≡ (old ++ f x) ++ flat_map f ys = ap (λ z. z ++ flat_map f ys) n in
    let b : (old ++ f x) ++ flat_map f ys ≡ old ++ (f x ++ flat_map f ys) = append_assoc old (f x) (flat_map f ys) in
    a ∙ (b ∙ ap (λ z. old ++ flat_map f z) (sym e))

pub adds_none : {A : Type 0} (f : A → List ℕ) (xs ys : List A) (old : List ℕ) → xs ≡ ys → Adds f xs ys old old
adds_none f xs ys old e = ap (λ z. old ++ flat_map f z) (sym e)

-- what is left of a list that is looked at through a function
pub left_one : {A B : Type 0} (f : A → B) (xs : List A) (i : ℕ) → drop 1 (map f (drop i xs)) ≡ map f (drop (i + 1) xs)
left_one f [] zero = refl
left_one f [] (suc i) = let q : suc i + 1 ≡ suc (i + 1) = omega arith in rw q refl
left_one f (x ∷ xs) zero = refl
left_one f (x ∷ xs) (suc i) = let q : suc i + 1 ≡ suc (i + 1) = omega arith in rw q (left_one f xs i)
