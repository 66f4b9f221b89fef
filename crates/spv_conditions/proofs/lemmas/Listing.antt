-- Conditions, one after another.
use Rattle.std.proofs.Common.{◌≡◌, ◌∙◌, ◌<◌, ◌≤◌, ◌+◌, ◌-◌, ◌++◌, Bool, ℕ, zero, suc, List, [], ◌∷◌, Some, refl, sym}
use Rattle.std.proofs.Common.{ap, subst, length, drop, arith, append_assoc}
use Rattle.std.specs.Prelude.{slice_get}
use Rattle.std.specs.List.{AllByRecursion}
use Rattle.std.proofs.lemmas.List.{append-nil}
use Rattle.std.proofs.lemmas.Option.{none-some}
use Rattle.spv_conditions.specs.declared.asked.Asked.{Asked}
use Rattle.spv_conditions.specs.declared.asked.Asked.TheVariants as asked
use Rattle.spv_conditions.specs.declared.asked.Rest.TheVariants as rest
use Rattle.spv_conditions.specs.declared.asked.Each.{Each}
use Rattle.spv_conditions.specs.declared.asked.Asks.{Asks}
use Rattle.spv_type_kinds.specs.declared.kinds.Kind.TheVariants as kind
use Rattle.spv_conditions.specs.declared.seat.Seat.TheVariants as seat
use Rattle.spv_conditions.specs.Chain.{first_index}
use Rattle.spv_conditions.specs.Condition.{FailsFirst}
use Rattle.spv_conditions.specs.Asks.{of_each, each_from, indexes_from, asked_by, conditions_in}

-- Those before the rest hold.
pub record Held (P : Asked → Type 0) (left whole : List Asked) : Type 0 where
  pub done : List Asked
  pub all : done ++ left ≡ whole
  pub hold : AllByRecursion P done

pub begun : (P : Asked → Type 0) (whole : List Asked) → Held P whole whole
begun P whole = record { done = []; all = refl; hold = tt }

pub all_both : (P : Asked → Type 0) (xs ys : List Asked) → AllByRecursion P xs → AllByRecursion P ys
    → AllByRecursion P (xs ++ ys)
all_both P [] ys h k = k
all_both P (x ∷ xs) ys h k = (h.0, all_both P xs ys h.1 k)

-- some of them hold
pub some_more : (P : Asked → Type 0) (xs left whole : List Asked) → Held P (xs ++ left) whole → AllByRecursion P xs
    → Held P left whole
some_more P xs left whole h k = record {
  done = h.done ++ xs;
  all = append_assoc h.done xs left ∙ h.all;
  hold = all_both P h.done xs h.hold k;
}

pub one_more : (P : Asked → Type 0) (a : Asked) (left whole : List Asked) → Held P (a ∷ left) whole → P a
    → Held P left whole
one_more P a left whole h p = some_more P (a ∷ []) left whole h (p, tt)

-- one of them is the first that fails
pub some_fail : (P : Asked → Type 0) (xs left whole : List Asked) (a : Asked) → Held P (xs ++ left) whole
    → FailsFirst P xs a → FailsFirst P whole a
some_fail P xs left whole a h f = record {
  before = h.done ++ f.before;
  after = f.after ++ left;
  all = sym h.all ∙ ap (λ ys. h.done ++ (ys ++ left)) f.all
      ∙ ap (λ ys. h.done ++ ys) (append_assoc f.before (a ∷ f.after) left)
      ∙ sym (append_assoc h.done f.before (a ∷ (f.after ++ left)));
  hold = all_both P h.done f.before h.hold f.hold;
  fails = f.fails;
}

pub alone : (P : Asked → Type 0) (a : Asked) (left : List Asked) → ¬ (P a) → FailsFirst P (a ∷ left) a
alone P a left n = record { before = []; after = left; all = refl; hold = tt; fails = n }

pub one_fails : (P : Asked → Type 0) (a : Asked) (left whole : List Asked) → Held P (a ∷ left) whole → ¬ (P a)
    → FailsFirst P whole a
one_fails P a left whole h n = some_fail P (a ∷ []) left whole a h (alone P a [] n)

pub ended : (P : Asked → Type 0) (whole : List Asked) → Held P [] whole → AllByRecursion P whole
ended P whole h = subst (AllByRecursion P) (sym (append-nil h.done) ∙ h.all) h.hold

-- A condition of each value.

pub each_start : (P : Asked → Type 0) (e : Each) (n : ℕ) → Held P (each_from e 0 (n - 0)) (each_from e 0 n)
each_start P e n = let all : n - 0 ≡ n = omega arith in rw all (begun P (each_from e 0 n))

pub each_front : (P : Asked → Type 0) (e : Each) (k n : ℕ) (whole : List Asked) → k < n
    → Held P (each_from e k (n - k)) whole → Held P (of_each e k ∷ each_from e (k + 1) (n - (k + 1))) whole
each_front P e k n whole l h = let left : n - k ≡ suc (n - (k + 1)) = omega arith in
    subst (λ m. Held P (each_from e k m) whole) left h

pub each_end : (P : Asked → Type 0) (e : Each) (k n : ℕ) (whole : List Asked) → n ≤ k
    → Held P (each_from e k (n - k)) whole → AllByRecursion P whole
each_end P e k n whole l h = let left : n - k ≡ 0 = omega arith in
    ended P whole (subst (λ m. Held P (each_from e k m) whole) left h)

-- Those of indexes.

pub index_front : (P : Asked → Type 0) (e : Bool) (k n : ℕ) (whole : List Asked) → k < n
    → Held P (indexes_from e k (n - k)) whole
    → Held P (asked.Kind kind.Int (seat.Value k) ∷ asked.Rest (rest.Chosen e (k - first_index e))
    ∷ indexes_from e (k + 1) (n - (k + 1))) whole
index_front P e k n whole l h = let left : n - k ≡ suc (n - (k + 1)) = omega arith in
    subst (λ m. Held P (indexes_from e k m) whole) left h

pub index_end : (P : Asked → Type 0) (e : Bool) (k n : ℕ) (whole : List Asked) → n ≤ k
    → Held P (indexes_from e k (n - k)) whole → AllByRecursion P whole
index_end P e k n whole l h = let left : n - k ≡ 0 = omega arith in
    ended P whole (subst (λ m. Held P (indexes_from e k m) whole) left h)

-- The parts of a line.

dropped : (xs : List Asks) (k : ℕ) (a : Asks) → slice_get xs k ≡ Some a → drop k xs ≡ a ∷ drop (k + 1) xs
dropped [] k a e = absurd (none-some a e)
dropped (x ∷ xs) zero a e = ap (λ z. z ∷ xs) (let q : x ≡ a = cc in q)
dropped (x ∷ xs) (suc k) a e = let next : suc k + 1 ≡ suc (k + 1) = omega arith in rw next (dropped xs k a e)

pub line_front : (P : Asked → Type 0) (line : List Asks) (k n : ℕ) (a : Asks) (whole : List Asked)
    → slice_get line k ≡ Some a → Held P (conditions_in (drop k line) n) whole
    → Held P (asked_by a n ++ conditions_in (drop (k + 1) line) n) whole
line_front P line k n a whole e h = subst (λ left. Held P (conditions_in left n) whole) (dropped line k a e) h

none_left : (xs : List Asks) (k : ℕ) → length xs ≤ k → drop k xs ≡ []
none_left [] zero l = refl
none_left [] (suc k) l = refl
none_left (x ∷ xs) zero l = absurd (let m : suc (length xs) ≤ 0 = l in omega arith)
none_left (x ∷ xs) (suc k) l = none_left xs k (let m : suc (length xs) ≤ suc k = l in omega arith)

pub line_end : (P : Asked → Type 0) (line : List Asks) (k n : ℕ) (whole : List Asked) → length line ≤ k
    → Held P (conditions_in (drop k line) n) whole → AllByRecursion P whole
line_end P line k n whole l h =
    ended P whole (subst (λ left. Held P (conditions_in left n) whole) (none_left line k l) h)

-- where a first one fails, not all hold
pub not_all : (P : Asked → Type 0) (xs : List Asked) (a : Asked) → FailsFirst P xs a → ¬ (AllByRecursion P xs)
not_all P xs a f h = f.fails (last_of f.before (subst (AllByRecursion P) f.all h)) where
  last_of : (before : List Asked) → AllByRecursion P (before ++ a ∷ f.after) → P a
  last_of [] k = k.0
  last_of (b ∷ before) k = last_of before k.1
