-- A number at the front of a text.
use Rattle.std.proofs.Common.{◌≡◌, ◌≢◌, ◌∙◌, ◌<◌, ◌≤◌, ◌^◌, ℕ, zero, suc, List, [], ◌∷◌, Bool, true, false, ◌&&◌}
use Rattle.std.proofs.Common.{length, take, drop, get_or, refl, sym, ap, arith}
use Rattle.std.specs.Prelude.{decimal}
use Rattle.std.specs.List.{list_all}
use Rattle.std.proofs.lemmas.List.{take_all}
use Rattle.std.proofs.lemmas.Bool.Decides.{nat_tests}
use Rattle.spv_lines.specs.Digits.{is_digit, value}
use Rattle.spv_lines.specs.Line.{before_space, from_space}
use Rattle.spv_lines.proofs.Numbers.{number_decimal}
use Rattle.spv_lines.proofs.Reader.{lean_by, number_by, token_at, token_whole}

both : (a b : Bool) → (a && b) ≡ true → (a ≡ true) × (b ≡ true)
both true b h = (refl, h)
both false b h = cc

no_space : (d : ℕ) → is_digit d ≡ true → d ≢ 32
no_space d h = grind (arith, nat_tests)

spaceless : (xs : List ℕ) (i : ℕ) → list_all is_digit (take i xs) ≡ true → (k : ℕ) → k < i → k < length xs
    → get_or xs k 0 ≢ 32
spaceless [] i h k l m = absurd (omega arith)
spaceless (x ∷ xs) zero h k l m = absurd (omega arith)
spaceless (x ∷ xs) (suc i) h zero l m = no_space x (both (is_digit x) (list_all is_digit (take i xs)) h).0
spaceless (x ∷ xs) (suc i) h (suc k) l m =
    spaceless xs i (both (is_digit x) (list_all is_digit (take i xs)) h).1 k (omega arith) (omega arith)

first_taken : (xs : List ℕ) (i : ℕ) → 0 < i → get_or (take i xs) 0 0 ≡ get_or xs 0 0
first_taken [] zero h = refl
first_taken [] (suc i) h = refl
first_taken (x ∷ xs) zero h = absurd (omega arith)
first_taken (x ∷ xs) (suc i) h = refl

some_taken : (xs : List ℕ) (i : ℕ) → 0 < i → i ≤ length xs → take i xs ≢ []
some_taken [] i h l = absurd (omega arith)
some_taken (x ∷ xs) zero h l = absurd (omega arith)
some_taken (x ∷ xs) (suc i) h l = λ e. cc

short_taken : (xs : List ℕ) (i : ℕ) → 1 < length (take i xs) → 1 < i
short_taken xs zero h = absurd (omega arith)
short_taken [] (suc i) h = absurd (omega arith)
short_taken (x ∷ xs) (suc zero) h = absurd (omega arith)
short_taken (x ∷ xs) (suc (suc i)) h = omega arith

-- the digits are those of the number
digits_are : (xs : List ℕ) (i n : ℕ) → 0 < i → i ≤ length xs → (1 < i → get_or xs 0 0 ≢ 48)
    → list_all is_digit (take i xs) ≡ true → value (take i xs) ≡ n → n < 2 ^ 64 → take i xs ≡ decimal n
digits_are xs i n h l z d v b =
    let e = lean_by (take i xs) (some_taken xs i h l) (λ m f. z (short_taken xs i m) (sym (first_taken xs i h) ∙ f)) in
    let m : value (take i xs) < 2 ^ 64 = omega arith in
    sym (number_decimal (take i xs) (number_by (take i xs) e d) m) ∙ ap decimal v

pub front_before : (xs : List ℕ) (i n : ℕ) → 0 < i → i < length xs → (1 < i → get_or xs 0 0 ≢ 48)
    → list_all is_digit (take i xs) ≡ true → value (take i xs) ≡ n → n < 2 ^ 32 → get_or xs i 0 ≡ 32
    → (n < 2 ^ 32) × (before_space xs ≡ decimal n) × (from_space xs ≡ drop i xs)
front_before xs i n h l z d v b s =
    let e = digits_are xs i n h (omega arith) z d v (omega arith) in
    let t = token_at xs i l (λ k m. spaceless xs i d k m (omega arith)) s in
    (b, t.0 ∙ e, t.1)

pub front_whole : (xs : List ℕ) (i n : ℕ) → 0 < i → i ≡ length xs → (1 < i → get_or xs 0 0 ≢ 48)
    → list_all is_digit (take i xs) ≡ true → value (take i xs) ≡ n → n < 2 ^ 32
    → (n < 2 ^ 32) × (before_space xs ≡ decimal n) × (from_space xs ≡ [])
front_whole xs i n h l z d v b =
    let e = digits_are xs i n h (omega arith) z d v (omega arith) in
    let w = take_all i xs (omega arith) in
    let t = token_whole xs (λ k m. spaceless xs i d k (omega arith) m) in
    (b, t.0 ∙ (sym w ∙ e), t.1)
