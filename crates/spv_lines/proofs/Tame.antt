-- Tokens without a space or a line feed, and where they end.
use Rattle.std.proofs.Common.{◌≡◌, ◌++◌, ◌<◌, ◌/◌, ◌%◌, ◌^◌, ℕ, zero, suc, List, [], ◌∷◌, Bool, true, false, ◌&&◌, refl}
use Rattle.std.proofs.Common.{arith}
use Rattle.std.specs.Prelude.{decimal}
use Rattle.std.specs.List.{AllByRecursion, list_all}
use Rattle.std.specs.Str.Parse.{AllDigits}
use Rattle.std.proofs.lemmas.Fmt.{decimal_is_IsNumeral}
use Rattle.std.proofs.lemmas.Str.Parse.{digit_from_value}
use Rattle.std.proofs.lemmas.Bool.Decides.{nat_tests}
use Rattle.spv_lines.specs.Digits.{hex_digit, hex_digits}
use Rattle.spv_lines.specs.Name.{is_plain, is_name_octet, AreNamesOf, joined, by_number}
use Rattle.spv_lines.specs.Refusal.{IsBreak, at_end, at_space}

-- all octets stand behind the space in ASCII
abbrev pub AreTame : List ℕ → Type 0
AreTame t = AllByRecursion (λ b. 32 < b) t

pub tame-append : (a b : List ℕ) → AreTame a → AreTame b → AreTame (a ++ b)
tame-append [] b h g = g
tame-append (x ∷ a) b h g = (h.0, tame-append a b h.1 g)

digits_tame : (ds : List ℕ) → AllDigits 10 ds → AreTame ds
digits_tame [] h = tt
digits_tame (d ∷ ds) h =
    let r = digit_from_value d h.0 in
    let l = r.0 in
    (omega arith, digits_tame ds h.1)

pub decimal_tame : (n : ℕ) → n < 2 ^ 64 → AreTame (decimal n)
decimal_tame n h =
    let i = decimal_is_IsNumeral n h in
    digits_tame (decimal n) i.0.1

name_octet_tame : (b : ℕ) → is_name_octet b ≡ true → 32 < b
name_octet_tame b h = grind (arith, nat_tests)

both : (a b : Bool) → (a && b) ≡ true → (a ≡ true) × (b ≡ true)
both true b h = (refl, h)
both false b h = cc

octets_tame : (t : List ℕ) → list_all is_name_octet t ≡ true → AreTame t
octets_tame [] h = tt
octets_tame (b ∷ t) h =
    let r = both (is_name_octet b) (list_all is_name_octet t) h in
    (name_octet_tame b r.0, octets_tame t r.1)

pub plain_tame : (t : List ℕ) → is_plain t ≡ true → AreTame t
plain_tame [] h = cc
plain_tame (b ∷ t) h = octets_tame (b ∷ t) h

hex_digit_tame : (d : ℕ) → 32 < hex_digit d
hex_digit_tame d = grind (arith, nat_tests)

pub hex_tame : (n x : ℕ) → AreTame (hex_digits n x)
unfolding hex_digits
hex_tame zero x = tt
hex_tame (suc n) x = tame-append (hex_digits n (x / 16)) (hex_digit (x % 16) ∷ []) (hex_tame n (x / 16))
    (hex_digit_tame (x % 16), tt)

pub number_tame : (x : ℕ) → x < 2 ^ 64 → AreTame (by_number x)
number_tame x h = (omega arith, decimal_tame x h)

pub joined_tame : (lookup : List ℕ → Rattle.std.specs.Prelude.Option ℕ) (xs : List ℕ) (ts : List (List ℕ))
    → AreNamesOf lookup xs ts → AreTame (joined ts)
joined_tame lookup [] [] h = tt
joined_tame lookup [] (t ∷ ts) h = absurd h
joined_tame lookup (x ∷ xs) [] h = absurd h
joined_tame lookup (x ∷ []) (t ∷ []) h = plain_tame t h.0.plain
joined_tame lookup (x ∷ []) (t ∷ u ∷ ts) h = absurd h.1
joined_tame lookup (x ∷ y ∷ xs) (t ∷ []) h = absurd h.1
joined_tame lookup (x ∷ y ∷ xs) (t ∷ u ∷ ts) h =
    tame-append t (124 ∷ joined (u ∷ ts)) (plain_tame t h.0.plain)
    (omega arith, joined_tame lookup (y ∷ xs) (u ∷ ts) h.1)

pub record Both (A B : Type 0) : Type 0 where
  pub first : A
  pub second : B

-- a token ends where the line breaks
pub run_same : (a b t u : List ℕ) → AreTame a → AreTame b → IsBreak t → IsBreak u → a ++ t ≡ b ++ u
    → Both (a ≡ b) (t ≡ u)
run_same [] [] t u h g i j e = record { first = refl; second = e }
run_same [] (y ∷ b) _ u h g at_end j e = cc
run_same [] (y ∷ b) _ u h g (at_space t) j e = let z : 32 ≡ y = cc in let l = g.0 in absurd (omega arith)
run_same (x ∷ a) [] t _ h g i at_end e = cc
run_same (x ∷ a) [] t _ h g i (at_space u) e = let z : x ≡ 32 = cc in let l = h.0 in absurd (omega arith)
run_same (x ∷ a) (y ∷ b) t u h g i j e =
    let z : x ≡ y = cc in
    let f : a ++ t ≡ b ++ u = cc in
    let r = run_same a b t u h.1 g.1 i j f in
    let k = r.first in
    record { first = cc; second = r.second }
