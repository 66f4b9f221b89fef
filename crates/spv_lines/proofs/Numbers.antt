-- Well-formed decimal numbers are what decimal writes.
use Rattle.std.proofs.Common.{◌≡◌, ◌<◌, ◌≤◌, ◌^◌, ℕ, zero, suc, List, [], ◌∷◌, Bool, true, false, not, ◌&&◌, nat_eq}
use Rattle.std.proofs.Common.{length, get_or, refl, arith}
use Rattle.std.specs.Prelude.{decimal}
use Rattle.std.specs.List.{list_all}
use Rattle.std.proofs.lemmas.Bool.Decides.{nat_tests}
use Rattle.std.proofs.lemmas.Fmt.{decimal_digit, first_decimal, decimal_nonempty, digits_decimal, digits_value-decimal}
use Rattle.std.proofs.lemmas.Fmt.{decimal-digits_value}
use Rattle.std.proofs.lemmas.Str.Parse.{IsDigitsTest, FoldsDigits, IsNumeralModel, numerals_by_fold}
use Rattle.spv_lines.specs.Digits.{is_digit, is_lean, is_number, value, value_after, IsLarge}
use Rattle.spv_lines.proofs.Tame.{Both, AreTame}

and_both : (a b : Bool) → (a && b) ≡ true → Both (a ≡ true) (b ≡ true)
and_both true b h = record { first = refl; second = h }
and_both false b h = cc

digit_range : (b : ℕ) → is_digit b ≡ true → (48 ≤ b) × (b ≤ 57)
digit_range b h = (grind (arith, nat_tests), grind (arith, nat_tests))

range_digit : (b : ℕ) → 48 ≤ b → b ≤ 57 → is_digit b ≡ true
range_digit b h g = grind (arith, nat_tests)

test : IsDigitsTest (λ ds. list_all is_digit ds ≡ true)
test = record {
  empty = refl;
  parts = λ c cs h. let r = and_both (is_digit c) (list_all is_digit cs) h in (digit_range c r.first, r.second);
  more = λ c cs h g. let e = range_digit c h.0 h.1 in rw e g;
}

folds : FoldsDigits value_after
folds = record { empty = λ n. refl; more = λ n c cs h. refl }

own : IsNumeralModel (λ ds. list_all is_digit ds ≡ true) value
own = numerals_by_fold (λ ds. list_all is_digit ds ≡ true) test value_after folds

digits_tame : (ds : List ℕ) → list_all is_digit ds ≡ true → AreTame ds
digits_tame [] h = tt
digits_tame (d ∷ ds) h =
    let r = and_both (is_digit d) (list_all is_digit ds) h in
    let k = digit_range d r.first in
    let l = k.0 in
    (omega arith, digits_tame ds r.second)

pub number_digits : (ds : List ℕ) → is_number ds ≡ true → list_all is_digit ds ≡ true
number_digits ds h = (and_both (is_lean ds) (list_all is_digit ds) h).second

pub well_formed_tame : (ds : List ℕ) → is_number ds ≡ true → AreTame ds
well_formed_tame ds h = digits_tame ds (number_digits ds h)

zero_alone : (ds : List ℕ) → ds ≡ 48 ∷ [] → is_lean ds ≡ true
zero_alone [] h = cc
zero_alone (b ∷ []) h = refl
zero_alone (b ∷ c ∷ l) h = cc

not_zero : (b : ℕ) → 48 < b → not (nat_eq b 48) ≡ true
not_zero b h = grind (arith, nat_tests)

lean_by : (ds : List ℕ) → 0 < length ds → 48 < get_or ds 0 0 → is_lean ds ≡ true
lean_by [] h g = absurd (omega arith)
lean_by (b ∷ []) h g = refl
lean_by (b ∷ c ∷ l) h g = not_zero b g

decimal_lean : (n : ℕ) → n < 2 ^ 64 → is_lean (decimal n) ≡ true
decimal_lean zero h = zero_alone (decimal 0) (decimal_digit 0 (omega arith))
decimal_lean (suc n) h = lean_by (decimal (suc n)) (decimal_nonempty (suc n) h) (first_decimal (suc n) (omega arith) h)

join : (a b : Bool) → a ≡ true → b ≡ true → (a && b) ≡ true
join a b h g = rw (h, g) refl

pub decimal_number : (n : ℕ) → n < 2 ^ 64 → is_number (decimal n) ≡ true
decimal_number n h = join (is_lean (decimal n)) (list_all is_digit (decimal n)) (decimal_lean n h)
    (digits_decimal own n h)

pub decimal_value : (n : ℕ) → n < 2 ^ 64 → value (decimal n) ≡ n
decimal_value n h = digits_value-decimal own n h

pub lean_some : (ds : List ℕ) → is_lean ds ≡ true → 0 < length ds
lean_some [] h = cc
lean_some (b ∷ ds) h = omega arith

lean_zero : (ds : List ℕ) → is_lean ds ≡ true → get_or ds 0 0 ≡ 48 → length ds ≡ 1
lean_zero [] h g = cc
lean_zero (b ∷ []) h g = refl
lean_zero (b ∷ c ∷ ds) h g = let e : not (nat_eq b 48) ≡ true = h in absurd (differ b e g)
  where
    differ : (b : ℕ) → not (nat_eq b 48) ≡ true → b ≡ 48 → ⊥
    differ b e f = grind (arith, nat_tests)

pub number_decimal : (ds : List ℕ) → is_number ds ≡ true → value ds < 2 ^ 64 → decimal (value ds) ≡ ds
number_decimal ds h l =
    let r = and_both (is_lean ds) (list_all is_digit ds) h in
    decimal-digits_value own ds r.second (lean_some ds r.first) (lean_zero ds r.first) l

-- no number that fits is too large
pub not_large : (limit x : ℕ) (ds : List ℕ) → x < limit → x < 2 ^ 64 → IsLarge limit ds → decimal x ≡ ds → ⊥
not_large limit x ds h g l e =
    let v = decimal_value x g in
    let w : value ds ≡ x = rw e at v in
    let m = l.large in
    omega arith
