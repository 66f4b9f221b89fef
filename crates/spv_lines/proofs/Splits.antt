-- Where texts are divided.
use Rattle.std.proofs.Common.{◌≡◌, ◌≢◌, ◌<◌, ◌+◌, ℕ, zero, suc, List, [], ◌∷◌, Some, None, true, false, nat_eq, length}
use Rattle.std.proofs.Common.{take, drop, get_or, refl, arith}
use Rattle.std.specs.Prelude.{◌==◌}
use Rattle.memchr.specs.Find.{IsFirstByte, is_byte}
use Rattle.std.proofs.lemmas.Bool.Decides.{nat_tests}
use Rattle.spv_lines.specs.Text.{lines_of}
use Rattle.spv_lines.specs.inner.Answer.{cells}

-- the first octet that is a mark
pub record IsFirstMark (m : ℕ) (xs : List ℕ) (i : ℕ) : Type 0 where
  pub within : i < length xs
  pub before : (k : ℕ) → k < i → get_or xs k 0 ≢ m
  pub at : get_or xs i 0 ≡ m

passes : (a m : ℕ) → a ≡ m → (a == m) ≡ true
passes a m e = grind (arith, nat_tests)

passed : (a m : ℕ) → (a == m) ≡ true → a ≡ m
passed a m e = grind (arith, nat_tests)

pub first_mark : (m : ℕ) (xs : List ℕ) (i : ℕ) → IsFirstByte (is_byte m) xs (Some i) → IsFirstMark m xs i
first_mark m xs i h =
    record {
      within = h.0.high;
      before = λ k l e. h.0.before k (omega arith) l (passes (get_or xs k 0) m e);
      at = passed (get_or xs i 0) m h.1;
    }

pub no_mark : (m : ℕ) (xs : List ℕ) → IsFirstByte (is_byte m) xs None → (k : ℕ) → k < length xs → get_or xs k 0 ≢ m
no_mark m xs h = λ k l e. h k (omega arith) l (passes (get_or xs k 0) m e)

eq_of : (a b : ℕ) → a ≡ b → nat_eq a b ≡ true
eq_of a b e = grind (arith, nat_tests)

ne_of : (a b : ℕ) → a ≢ b → nat_eq a b ≡ false
ne_of a b e = grind (arith, nat_tests)

cells_by : (xs : List ℕ) (i : ℕ) → i < length xs → ((k : ℕ) → k < i → get_or xs k 0 ≢ 124) → get_or xs i 0 ≡ 124
    → cells xs ≡ take i xs ∷ cells (drop (i + 1) xs)
cells_by [] i l h g = absurd (omega arith)
cells_by (x ∷ xs) zero l h g = let e = eq_of x 124 g in rw e refl
cells_by (x ∷ xs) (suc i) l h g =
    let e = ne_of x 124 (h 0 (omega arith)) in
    let r = cells_by xs i (omega arith) (λ k m. h (suc k) (omega arith)) g in
    let s : suc i + 1 ≡ suc (i + 1) = omega arith in
    rw (e, r, s) refl

pub cells_at : (xs : List ℕ) (i : ℕ) → IsFirstMark 124 xs i → cells xs ≡ take i xs ∷ cells (drop (i + 1) xs)
cells_at xs i h = cells_by xs i h.within h.before h.at

pub one_cell : (xs : List ℕ) → ((k : ℕ) → k < length xs → get_or xs k 0 ≢ 124) → cells xs ≡ xs ∷ []
one_cell [] h = refl
one_cell (x ∷ xs) h =
    let e = ne_of x 124 (h 0 (omega arith)) in
    let r = one_cell xs (λ k m. h (suc k) (omega arith)) in
    rw (e, r) refl

lines_by : (xs : List ℕ) (i : ℕ) → i < length xs → ((k : ℕ) → k < i → get_or xs k 0 ≢ 10) → get_or xs i 0 ≡ 10
    → lines_of xs ≡ take i xs ∷ lines_of (drop (i + 1) xs)
lines_by [] i l h g = absurd (omega arith)
lines_by (x ∷ xs) zero l h g = let e = eq_of x 10 g in rw e refl
lines_by (x ∷ xs) (suc i) l h g =
    let e = ne_of x 10 (h 0 (omega arith)) in
    let r = lines_by xs i (omega arith) (λ k m. h (suc k) (omega arith)) g in
    let s : suc i + 1 ≡ suc (i + 1) = omega arith in
    rw (e, r, s) refl

pub lines_at : (xs : List ℕ) (i : ℕ) → IsFirstMark 10 xs i → lines_of xs ≡ take i xs ∷ lines_of (drop (i + 1) xs)
lines_at xs i h = lines_by xs i h.within h.before h.at

pub one_line : (xs : List ℕ) → 0 < length xs → ((k : ℕ) → k < length xs → get_or xs k 0 ≢ 10) → lines_of xs ≡ xs ∷ []
one_line [] l h = absurd (omega arith)
one_line (x ∷ []) l h = let e = ne_of x 10 (h 0 (omega arith)) in rw e refl
one_line (x ∷ y ∷ xs) l h =
    let e = ne_of x 10 (h 0 (omega arith)) in
    let r = one_line (y ∷ xs) (omega arith) (λ k m. h (suc k) (omega arith)) in
    rw (e, r) refl
