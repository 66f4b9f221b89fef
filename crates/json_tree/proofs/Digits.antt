-- Numbers of a few digits.
use Rattle.std.proofs.Common.{◌≡◌, ℕ, ◌+◌, ◌-◌, ◌*◌, ◌^◌, ◌<◌, ◌≤◌, Bool, false, true, nat_eq, nat_lt, if◌then◌else◌, List, [], ◌∷◌, length, get_or, take, Some, refl, sym, ap, ◌∙◌, arith, lit<, length-take, append-nil}
use Rattle.std.proofs.Math.Nat.{pow-le-pow_right}
use Rattle.std.proofs.lemmas.Bool.Decides.{nat_tests}
use Rattle.std.proofs.lemmas.Int.Digits.{digits_value-lt, digits_value_more, digits_more}
use Rattle.std.proofs.lemmas.Float.Parse.{scan_numeral-text_of}
use Rattle.std.specs.Char.{digit_value}
use Rattle.std.specs.Str.Parse.{AllDigits, IsNumeral, digits_value}
use Rattle.std.specs.Float.Numeral.{Parts, IsWellFormed, text_of, scan_numeral}
use Rattle.serde_json.specs.Data.{unsigned}
use Rattle.serde_json.specs.Read.{number_of, number_from}

digit_is : (c : ℕ) → 48 ≤ c → c < 58 → digit_value c ≡ c - 48
digit_is c low high =
    let a : nat_lt c 48 ≡ false = grind (arith, nat_tests) in
    let b : nat_lt c 58 ≡ true = grind (arith, nat_tests) in
    rw (a, b) refl

pub record Turn (bs : List ℕ) (i n : ℕ) : Type 0 where
  pub digits : AllDigits 10 (take (i + 1) bs)
  pub value : 10 * n + (get_or bs i 0 - 48) ≡ digits_value 10 (take (i + 1) bs)
  pub room : n < 100000000

pub one_more_digit : (bs : List ℕ) (i n : ℕ) → i < length bs → i < 9 → AllDigits 10 (take i bs) → n ≡ digits_value 10 (take i bs) → 48 ≤ get_or bs i 0 → get_or bs i 0 < 58 → Turn bs i n
one_more_digit bs i n less few digits value low high =
    let c = get_or bs i 0 in
    let d : digit_value c ≡ c - 48 = digit_is c low high in
    let more = digits_value_more 10 bs i less in
    let below = digits_value-lt 10 (take i bs) digits in
    let long : length (take i bs) ≤ 8 = omega (arith, length-take i bs) in
    let small : 10 ^ length (take i bs) ≤ 10 ^ 8 = pow-le-pow_right (lit< tt) {j = 8} long in
    record {
      digits = digits_more 10 bs i less digits (omega arith);
      value = omega arith;
      room = omega arith;
    }

-- digits alone are a whole number
abbrev whole : List ℕ → Parts
whole ds = record { whole = ds; point = false; fraction = []; exponent_negative = false; exponent = []; len = length ds }

whole_text : (ds : List ℕ) → text_of (whole ds) ≡ ds
whole_text ds = append-nil ds

whole_formed : (ds : List ℕ) → AllDigits 10 ds → IsWellFormed (whole ds)
whole_formed ds digits = record {
  whole_digits = digits;
  fraction_digits = tt;
  exponent_digits = tt;
  no_point = λ _. refl;
  no_exponent = λ _. refl;
  len_is = ap length (sym (whole_text ds));
}

scan_whole : (ds : List ℕ) → AllDigits 10 ds → scan_numeral ds ≡ whole ds
scan_whole ds digits = ap scan_numeral (sym (whole_text ds)) ∙ scan_numeral-text_of (whole ds) (whole_formed ds digits)

read_parts : (ds : List ℕ) → 0 < length ds → digits_value 10 ds < 2 ^ 64 → number_from false (whole ds) ≡ Some (unsigned (digits_value 10 ds))
read_parts ds some small =
    let first : nat_lt 0 (length ds) ≡ true = grind (arith, nat_tests, some) in
    let fits : nat_lt (digits_value 10 ds) (2 ^ 64) ≡ true = grind (arith, nat_tests) in
    rw (append-nil ds, first, fits) refl

no_minus : (c : ℕ) (b : Bool) → nat_eq c 45 ≡ b → digit_value c < 10 → b ≡ false
no_minus c true e digit =
    let same : c ≡ 45 = grind (arith, nat_tests, e) in
    let high : 36 < 10 = rw same at digit in
    absurd (omega arith)
no_minus c false e digit = refl

-- the number that few digits write
pub few_digits_number : (ds : List ℕ) → IsNumeral 10 ds → digits_value 10 ds < 2 ^ 32 → number_of ds ≡ Some (unsigned (digits_value 10 ds))
unfolding number_of
few_digits_number [] n small = absurd (omega (arith, n.0))
few_digits_number (c ∷ cs) n small =
    let plain : nat_eq c 45 ≡ false = no_minus c (nat_eq c 45) refl n.1.0 in
    let bound : digits_value 10 (c ∷ cs) < 2 ^ 64 = omega arith in
    rw plain (ap (number_from false) (scan_whole (c ∷ cs) n.1) ∙ read_parts (c ∷ cs) n.0 bound)
