-- Maps that are filled from the last element of a list to the first, so that the first of a number or a name stays.
use Rattle.std.proofs.Common.{◌≡◌, ◌≢◌, ℕ, ◌<◌, ◌≤◌, ◌+◌, ◌-◌, suc, Bool, true, false, cond, nat_eq, nat_lt, List, [], ◌∷◌, Option, Some, None, option_and_then, slice_get, length, get_or, set, drop, if◌then◌else◌, refl, sym, ap, ◌∙◌, drop-cons, arith}
use Rattle.std.specs.List.{position, position_from, position_or_len}
use Rattle.std.specs.Ordering.{nat_cmp, is_eq}
use Rattle.std.proofs.lemmas.Bool.Decides.{nat_tests}
use Rattle.std.proofs.lemmas.Grind.{common_steps}
use Rattle.std.proofs.lemmas.Option.{slice_get_read}
use Rattle.spv_table.specs.Table.{first_with}

pub front_at : {A : Type 0} (xs : List A) (i : ℕ) (x : A) → 0 < i → i ≤ length xs → x ≡ get_or xs (i - 1) x → drop (i - 1) xs ≡ x ∷ drop i xs
front_at xs i x some within is =
    let below : i - 1 < length xs = omega arith in
    let next : suc (i - 1) ≡ i = omega arith in
    drop-cons xs (i - 1) x below ∙ ap (λ n. get_or xs (i - 1) x ∷ drop n xs) next ∙ ap (λ y. y ∷ drop i xs) (sym is)

pub same_number : (a b : ℕ) → is_eq (nat_cmp a b) ≡ nat_eq a b
same_number a b = grind (arith, nat_tests)

module _ {A : Type 0} (number : A → ℕ) (xs : List A) (i : ℕ) (x : A) where
  pub first_step-by : (old new : Option ℕ) (n : ℕ) (same : Bool) → 0 < i → i ≤ length xs → x ≡ get_or xs (i - 1) x → nat_eq (number x) n ≡ same
      → option_and_then (slice_get xs) old ≡ first_with number n (drop i xs) → new ≡ (if same then Some (i - 1) else old) → option_and_then (slice_get xs) new ≡ first_with number n (drop (i - 1) xs)
  first_step-by old new n true some within is e before now =
      let below : i - 1 < length xs = omega arith in
      rw (now, front_at xs i x some within is, e) (slice_get_read xs (length xs) (i - 1) x refl below is)
  first_step-by old new n false some within is e before now = rw (now, front_at xs i x some within is, e) before

  -- the first of a number, with one more element in front
  pub first_step : (old new : Option ℕ) (n : ℕ) → 0 < i → i ≤ length xs → x ≡ get_or xs (i - 1) x
      → option_and_then (slice_get xs) old ≡ first_with number n (drop i xs) → new ≡ (if nat_eq (number x) n then Some (i - 1) else old) → option_and_then (slice_get xs) new ≡ first_with number n (drop (i - 1) xs)
  first_step old new n some within is before now = first_step-by old new n (nat_eq (number x) n) some within is refl before now

-- the first place, counted from a number
abbrev place_or_none : {A : Type 0} (p : A → Bool) (n : ℕ) (xs : List A) → Option ℕ
place_or_none p n xs = cond (nat_lt (position_or_len p xs) (length xs)) (Some (n + position_or_len p xs)) None

later_place : {A : Type 0} (p : A → Bool) (n : ℕ) (x : A) (xs : List A) (same : Bool) → p x ≡ same → position_from p (n + 1) xs ≡ place_or_none p (n + 1) xs → position_from p n (x ∷ xs) ≡ place_or_none p n (x ∷ xs)
later_place p n x xs true e later = rw e (grind (arith, common_steps))
later_place p n x xs false e later = rw (e, later) (grind (arith, common_steps))

pub position_from-is : {A : Type 0} (p : A → Bool) (n : ℕ) (xs : List A) → position_from p n xs ≡ place_or_none p n xs
position_from-is p n [] = refl
position_from-is p n (x ∷ xs) = later_place p n x xs (p x) refl (position_from-is p (n + 1) xs)

pub position_from-zero : {A : Type 0} (p : A → Bool) (xs : List A) → position_from p 0 xs ≡ position p xs
position_from-zero p xs = position_from-is p 0 xs ∙ ap (λ n. cond (nat_lt (position_or_len p xs) (length xs)) (Some n) None) (omega arith)

-- a write of a place
pub dense : (ps : List ℕ) (k v n d : ℕ) → k < length ps → Some (get_or (set ps k v) n d) ≡ (if nat_eq k n then Some v else Some (get_or ps n d))
dense ps k v n d h = by (nat_eq k n) refl
  where
    by : (b : Bool) → nat_eq k n ≡ b → Some (get_or (set ps k v) n d) ≡ (if b then Some v else Some (get_or ps n d))
    by true e = let same : k ≡ n = grind (arith, nat_tests) in grind (arith, common_steps)
    by false e = let other : k ≢ n = grind (arith, nat_tests) in grind (arith, common_steps)
