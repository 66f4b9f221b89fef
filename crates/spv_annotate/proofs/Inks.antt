-- Octets that neither begin a comment nor a quote, and are no spaces.
use Rattle.std.proofs.Common.{◌≡◌, ◌≢◌, ◌++◌, ◌<◌, ◌/◌, ◌%◌, ◌+◌, ◌*◌, ◌^◌, ℕ, zero, suc, List, [], ◌∷◌, Bool, true}
use Rattle.std.proofs.Common.{false, ◌&&◌, refl, arith}
use Rattle.std.specs.Prelude.{decimal, codes, Option}
use Rattle.std.specs.List.{AllByRecursion, list_all}
use Rattle.std.specs.Str.Parse.{AllDigits}
use Rattle.std.proofs.lemmas.Fmt.{decimal_is_IsNumeral}
use Rattle.std.proofs.lemmas.Str.Parse.{digit_from_value}
use Rattle.std.proofs.lemmas.Bool.Decides.{nat_tests}
use Rattle.spv_lines.specs.Digits.{hex_digit, hex_digits}
use Rattle.spv_lines.specs.Name.{is_plain, is_name_octet, AreNamesOf, Names, NamesMask, by_number, joined, mask_values}
use Rattle.spv_lines.specs.Operand.{id_text, number_text}

pub record IsInk (b : ℕ) : Type 0 where
  pub dark : 32 < b
  pub no_comment : b ≢ 59
  pub no_quote : b ≢ 34

abbrev pub AreInk : List ℕ → Type 0
AreInk t = AllByRecursion IsInk t

pub ink-append : (a b : List ℕ) → AreInk a → AreInk b → AreInk (a ++ b)
ink-append [] b h g = g
ink-append (x ∷ a) b h g = (h.0, ink-append a b h.1 g)

ink : (b : ℕ) → 59 < b → IsInk b
ink b h = record { dark = omega arith; no_comment = λ e. omega arith; no_quote = λ e. omega arith }

low_ink : (b : ℕ) → 34 < b → b < 59 → IsInk b
low_ink b h g = record { dark = omega arith; no_comment = λ e. omega arith; no_quote = λ e. omega arith }

digits_ink : (ds : List ℕ) → AllDigits 10 ds → AreInk ds
digits_ink [] h = tt
digits_ink (d ∷ ds) h =
    let r = digit_from_value d h.0 in
    let l = r.0 in
    let m = r.1 in
    (low_ink d (omega arith) (omega arith), digits_ink ds h.1)

pub decimal_ink : (n : ℕ) → n < 2 ^ 64 → AreInk (decimal n)
decimal_ink n h = let i = decimal_is_IsNumeral n h in digits_ink (decimal n) i.0.1

name_octet_ink : (b : ℕ) → is_name_octet b ≡ true → IsInk b
name_octet_ink b h = record {
  dark = grind (arith, nat_tests);
  no_comment = λ e. grind (arith, nat_tests);
  no_quote = λ e. grind (arith, nat_tests);
}

both : (a b : Bool) → (a && b) ≡ true → (a ≡ true) × (b ≡ true)
both true b h = (refl, h)
both false b h = cc

octets_ink : (t : List ℕ) → list_all is_name_octet t ≡ true → AreInk t
octets_ink [] h = tt
octets_ink (b ∷ t) h = let r = both (is_name_octet b) (list_all is_name_octet t) h in
    (name_octet_ink b r.0, octets_ink t r.1)

pub plain_ink : (t : List ℕ) → is_plain t ≡ true → AreInk t
plain_ink [] h = cc
plain_ink (b ∷ t) h = octets_ink (b ∷ t) h

pub hex_digit_ink : (d : ℕ) → d < 16 → IsInk (hex_digit d)
hex_digit_ink d l = record {
  dark = grind (arith, nat_tests);
  no_comment = λ e. grind (arith, nat_tests);
  no_quote = λ e. grind (arith, nat_tests);
}

pub hex_ink : (n x : ℕ) → AreInk (hex_digits n x)
unfolding hex_digits
hex_ink zero x = tt
hex_ink (suc n) x = ink-append (hex_digits n (x / 16)) (hex_digit (x % 16) ∷ []) (hex_ink n (x / 16))
    (hex_digit_ink (x % 16) (omega arith), tt)

number_ink : (x : ℕ) → x < 2 ^ 64 → AreInk (by_number x)
number_ink x h = (low_ink 35 (omega arith) (omega arith), decimal_ink x h)

joined_ink : (lookup : List ℕ → Option ℕ) (xs : List ℕ) (ts : List (List ℕ)) → AreNamesOf lookup xs ts
    → AreInk (joined ts)
joined_ink lookup [] [] h = tt
joined_ink lookup [] (t ∷ ts) h = absurd h
joined_ink lookup (x ∷ xs) [] h = absurd h
joined_ink lookup (x ∷ []) (t ∷ []) h = plain_ink t h.0.plain
joined_ink lookup (x ∷ []) (t ∷ u ∷ ts) h = absurd h.1
joined_ink lookup (x ∷ y ∷ xs) (t ∷ []) h = absurd h.1
joined_ink lookup (x ∷ y ∷ xs) (t ∷ u ∷ ts) h =
    ink-append t (124 ∷ joined (u ∷ ts)) (plain_ink t h.0.plain)
    (ink 124 (omega arith), joined_ink lookup (y ∷ xs) (u ∷ ts) h.1)

pub id_ink : (x : ℕ) → x < 4294967296 → AreInk (id_text x)
id_ink x h = (low_ink 37 (omega arith) (omega arith), decimal_ink x (omega arith))

pub names_ink : (lookup : List ℕ → Option ℕ) (x : ℕ) (t : List ℕ) → x < 4294967296 → Names lookup x t → AreInk t
names_ink lookup x _ h (Names.named t n) = plain_ink t n.plain
names_ink lookup x _ h Names.numbered = number_ink x (omega arith)

pub masks_ink : (lookup : List ℕ → Option ℕ) (x : ℕ) (t : List ℕ) → x < 4294967296 → NamesMask lookup x t → AreInk t
masks_ink lookup x _ h (NamesMask.named ts n) = joined_ink lookup (mask_values x) ts n
masks_ink lookup x _ h NamesMask.numbered = number_ink x (omega arith)

zero_x : AreInk (codes "0x")
zero_x = (low_ink 48 (omega arith) (omega arith), (ink 120 (omega arith), tt))

pub narrow_ink : (hex : Bool) (x : ℕ) → x < 4294967296 → AreInk (number_text hex x 0 1)
narrow_ink true x h = ink-append (codes "0x") (hex_digits 8 x) zero_x (hex_ink 8 x)
narrow_ink false x h = decimal_ink (x + 4294967296 * 0) (omega arith)

pub wide_ink : (hex : Bool) (low high : ℕ) → low < 4294967296 → high < 4294967296 → AreInk (number_text hex low high 2)
wide_ink true low high h g =
    ink-append (codes "0x") (hex_digits 8 high ++ hex_digits 8 low) zero_x
    (ink-append (hex_digits 8 high) (hex_digits 8 low) (hex_ink 8 high) (hex_ink 8 low))
wide_ink false low high h g = decimal_ink (low + 4294967296 * high) (omega arith)
