-- Conditions, one after another.
use Rattle.std.proofs.Common.{◌≡◌, ◌∙◌, ◌≤◌, ◌+◌, ◌++◌, ℕ, zero, suc, List, [], ◌∷◌, Some, ap, sym, subst, length, take, arith}
use Rattle.std.specs.Prelude.{slice_get}
use Rattle.std.specs.List.{AllByRecursion}
use Rattle.std.proofs.lemmas.Option.{none-some}
use Rattle.spv_std_types.specs.declared.condition.Condition.{Condition}
use Rattle.spv_std_types.specs.Condition.{FailsFirst}

pub none_taken : (P : Condition → Type 0) (xs : List Condition) → AllByRecursion P (take 0 xs)
none_taken P [] = tt
none_taken P (x ∷ xs) = tt

one_more : (P : Condition → Type 0) (xs : List Condition) (k : ℕ) (a : Condition) → slice_get xs k ≡ Some a
    → AllByRecursion P (take k xs) → P a → AllByRecursion P (take (suc k) xs)
one_more P [] k a e h p = absurd (none-some a e)
one_more P (x ∷ xs) zero a e h p = (subst P (let q : a ≡ x = cc in q) p, none_taken P xs)
one_more P (x ∷ xs) (suc k) a e h p = (h.0, one_more P xs k a e h.1 p)

-- those up to one hold, and this one
pub held_more : (P : Condition → Type 0) (xs : List Condition) (k : ℕ) (a : Condition) → slice_get xs k ≡ Some a
    → AllByRecursion P (take k xs) → P a → AllByRecursion P (take (k + 1) xs)
held_more P xs k a e h p = let next : k + 1 ≡ suc k = omega arith in rw next (one_more P xs k a e h p)

-- those up to one hold, and this one does not
pub fails_at : (P : Condition → Type 0) (xs : List Condition) (k : ℕ) (a : Condition) → slice_get xs k ≡ Some a
    → AllByRecursion P (take k xs) → ¬ (P a) → FailsFirst P xs a
fails_at P [] k a e h n = absurd (none-some a e)
fails_at P (x ∷ xs) zero a e h n = record {
  before = [];
  after = xs;
  all = ap (λ y. y ∷ xs) (let q : x ≡ a = cc in q);
  hold = tt;
  fails = n;
}
fails_at P (x ∷ xs) (suc k) a e h n = let f = fails_at P xs k a e h.1 n in record {
  before = x ∷ f.before;
  after = f.after;
  all = ap (λ ys. x ∷ ys) f.all;
  hold = (h.0, f.hold);
  fails = f.fails;
}

-- those up to the end hold
pub all_held : (P : Condition → Type 0) (xs : List Condition) (k : ℕ) → length xs ≤ k → AllByRecursion P (take k xs)
    → AllByRecursion P xs
all_held P [] k l h = tt
all_held P (x ∷ xs) zero l h = absurd (let m : suc (length xs) ≤ 0 = l in omega arith)
all_held P (x ∷ xs) (suc k) l h =
    (h.0, all_held P xs k (let m : suc (length xs) ≤ suc k = l in omega arith) h.1)

-- where a first one fails, not all hold
pub not_all : (P : Condition → Type 0) (xs : List Condition) (a : Condition) → FailsFirst P xs a
    → ¬ (AllByRecursion P xs)
not_all P xs a f h = f.fails (last_of f.before (subst (AllByRecursion P) f.all h)) where
  last_of : (before : List Condition) → AllByRecursion P (before ++ a ∷ f.after) → P a
  last_of [] k = k.0
  last_of (b ∷ before) k = last_of before k.1

-- a first one is one alone
one_first : (P : Condition → Type 0) (a b : Condition) (p q ps qs : List Condition) → p ++ a ∷ ps ≡ q ++ b ∷ qs
    → AllByRecursion P p → AllByRecursion P q → ¬ (P a) → ¬ (P b) → a ≡ b
one_first P a b [] [] ps qs e h k m n = cc
one_first P a b [] (y ∷ q) ps qs e h k m n = absurd (m (subst P (let s : y ≡ a = cc in s) k.0))
one_first P a b (x ∷ p) [] ps qs e h k m n = absurd (n (subst P (let s : x ≡ b = cc in s) h.0))
one_first P a b (x ∷ p) (y ∷ q) ps qs e h k m n =
    one_first P a b p q ps qs (let s : p ++ a ∷ ps ≡ q ++ b ∷ qs = cc in s) h.1 k.1 m n

pub same_first : (P : Condition → Type 0) (xs : List Condition) (a b : Condition) → FailsFirst P xs a
    → FailsFirst P xs b → a ≡ b
same_first P xs a b f g =
    one_first P a b f.before g.before f.after g.after (sym f.all ∙ g.all) f.hold g.hold f.fails g.fails
