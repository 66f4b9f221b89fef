-- Decimal numbers that were read.
use Rattle.std.proofs.Common.{◌≡◌, ◌∙◌, ◌<◌, ◌≤◌, ◌^◌, ℕ, List, Option, Some, None, true, length, take, sym, ap, arith}
use Rattle.std.specs.Prelude.{decimal}
use Rattle.std.specs.List.{list_all}
use Rattle.spv_lines.specs.Digits.{is_digit, is_lean, value, IsLarge}
use Rattle.spv_lines.proofs.Numbers.{number_decimal}
use Rattle.spv_lines.proofs.Reader.{SoFar, number_by}

whole : (xs : List ℕ) (i : ℕ) → length xs ≤ i → take i xs ≡ xs
whole xs i h = Rattle.std.proofs.lemmas.List.take_all i xs h

pub long_number : (xs : List ℕ) (i n : ℕ) (o : Option ℕ) → length xs ≤ i → is_lean xs ≡ true
    → list_all is_digit (take i xs) ≡ true → SoFar o (value (take i xs)) → o ≡ Some n → (n < 2 ^ 64) × (xs ≡ decimal n)
long_number xs i n o h l d s e =
    let w = whole xs i h in
    let d' : list_all is_digit xs ≡ true = rw w at d in
    let s' : SoFar (Some n) (value (take i xs)) = rw e at s in
    let b = s'.1 in
    let v : value xs ≡ n = ap value (sym w) ∙ s'.0 in
    let m : value xs < 2 ^ 64 = omega arith in
    (b, sym (number_decimal xs (number_by xs l d') m) ∙ ap decimal v)

pub long_large : (xs : List ℕ) (i : ℕ) (o : Option ℕ) → length xs ≤ i → is_lean xs ≡ true
    → list_all is_digit (take i xs) ≡ true → SoFar o (value (take i xs)) → o ≡ None → IsLarge (2 ^ 64) xs
long_large xs i o h l d s e =
    let w = whole xs i h in
    let d' : list_all is_digit xs ≡ true = rw w at d in
    let s' : SoFar None (value (take i xs)) = rw e at s in
    let s'' : 2 ^ 64 ≤ value xs = rw w at s' in
    record { number = number_by xs l d'; large = s'' }
