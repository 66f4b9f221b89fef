-- The texts of floats.
use Rattle.std.proofs.Common.{◌≡◌, ◌<◌, ◌/◌, ◌%◌, ◌++◌, ℕ, List, [], ◌∷◌, Bool, true, false, drop, refl, arith}
use Rattle.std.specs.Prelude.{codes, if◌then◌else◌, nat_lt, IsTrue, IsFalse}
use Rattle.std.specs.Str.{IsCharBoundary}
use Rattle.spv_lines.specs.Digits.{hex_digit, hex_digits}
use Rattle.std.specs.Fmt.{sign_text}
use Rattle.std.specs.Str.Parse.{AllDigits}
use Rattle.std.specs.Float.{float_is_finite}
use Rattle.std.specs.Float.Ieee.{Float, nan, inf, fin}
use Rattle.std.proofs.lemmas.Str.Parse.{digit_from_value}
use Rattle.std.specs.Float.Numeral.{Parts, exponent_text, text_of}
use Rattle.ryu.specs.Plain.{IsPlain, IsPlainNumber, word_of}
use Rattle.spv_lines.proofs.Tame.{AreTame, tame-append}

digits_tame : (ds : List ℕ) → AllDigits 10 ds → AreTame ds
digits_tame [] h = tt
digits_tame (d ∷ ds) h = let r = digit_from_value d h.0 in let l = r.0 in (omega arith, digits_tame ds h.1)

sign_tame : (negative : Bool) → AreTame (sign_text negative)
sign_tame true = (omega arith, tt)
sign_tame false = tt

point_tame : (b : Bool) (ds : List ℕ) → AllDigits 10 ds → AreTame (if b then 46 ∷ ds else [])
point_tame true ds h = (omega arith, digits_tame ds h)
point_tame false ds h = tt

exponent_tame : (negative : Bool) (ds : List ℕ) → AllDigits 10 ds → AreTame (exponent_text negative ds)
exponent_tame negative [] h = tt
exponent_tame negative (d ∷ ds) h =
    (omega arith, tame-append (sign_text negative) (d ∷ ds) (sign_tame negative) (digits_tame (d ∷ ds) h))

parts_tame : (p : Parts) → IsPlain p → AreTame (text_of p)
parts_tame p h =
    let w = h.well_formed in
    tame-append p.whole ((if p.point then 46 ∷ p.fraction else []) ++ exponent_text p.exponent_negative p.exponent)
    (digits_tame p.whole w.whole_digits)
    (tame-append (if p.point then 46 ∷ p.fraction else []) (exponent_text p.exponent_negative p.exponent)
    (point_tame p.point p.fraction w.fraction_digits)
    (exponent_tame p.exponent_negative p.exponent w.exponent_digits))

plain_tame : (t : List ℕ) → IsPlainNumber t → AreTame t
plain_tame t h = rw h.2 (tame-append (sign_text h.0) (text_of h.1) (sign_tame h.0) (parts_tame h.1 h.3))

word_tame : (x : Float) → AreTame (word_of x)
word_tame nan = (omega arith, (omega arith, (omega arith, tt)))
word_tame (inf negative) =
    tame-append (sign_text negative) (codes "inf") (sign_tame negative) (omega arith, (omega arith, (omega arith, tt)))
word_tame (fin s m e) = tt

-- the text of a float has no space, control character or line feed
pub float_tame : (x : Float) (t : List ℕ) → (IsTrue (float_is_finite x) → IsPlainNumber t)
    → (IsFalse (float_is_finite x) → t ≡ word_of x) → AreTame t
float_tame x t h g = split (float_is_finite x) refl
  where
    split : (b : Bool) → float_is_finite x ≡ b → AreTame t
    split true e = plain_tame t (h e)
    split false e = rw (g e) (word_tame x)

-- Bits in hexadecimal.

small_digit : (d : ℕ) → d < 16 → hex_digit d < 128
small_digit d l = by (nat_lt d 10) refl
  where
    by : (b : Bool) → nat_lt d 10 ≡ b → hex_digit d < 128
    by true e = rw e (omega arith)
    by false e = rw e (omega arith)

pub half_begins : (n : ℕ) (t : List ℕ) → t ≡ hex_digits 8 n → 0 < 4 → IsCharBoundary t 4
unfolding hex_digits
half_begins n t e z = rw e (
  omega arith,
  λ l h. let s = small_digit (n / 16 / 16 / 16 % 16) (omega arith) in absurd (omega (arith, s, h)),
)

pub half_digits : (n : ℕ) → drop 4 (hex_digits 8 n) ≡ hex_digits 4 n
unfolding hex_digits
half_digits n = refl
