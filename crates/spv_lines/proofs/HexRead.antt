-- Eight hexadecimal digits that were read.
use Rattle.std.proofs.Common.{◌≡◌, ◌≢◌, ◌++◌, ◌∙◌, ◌<◌, ◌≤◌, ◌+◌, ◌-◌, ◌*◌, ◌/◌, ◌%◌, ◌^◌, ℕ, zero, suc, List, [], ◌∷◌}
use Rattle.std.proofs.Common.{length, take, get_or, refl, sym, ap, arith}
use Rattle.std.specs.List.{AllByRecursion}
use Rattle.std.proofs.lemmas.List.{take_more, take_all}
use Rattle.std.proofs.Math.Nat.{pow-succ', pow-le-pow_right}
use Rattle.std.proofs.lemmas.Bool.Decides.{nat_tests}
use Rattle.spv_lines.specs.Digits.{hex_digit, hex_digits}
use Rattle.spv_lines.proofs.Tokens.{length-hex}

pub low_digit : (b : ℕ) → 48 ≤ b → b ≤ 57 → b ≡ hex_digit (b - 48)
low_digit b h g = grind (arith, nat_tests)

pub high_digit : (b : ℕ) → 97 ≤ b → b ≤ 102 → b ≡ hex_digit (b - 97 + 10)
high_digit b h g = grind (arith, nat_tests)

pub digit_in : (b d : ℕ) → d < 16 → b ≡ hex_digit d → (48 ≤ b → b ≤ 57 → ⊥) → (97 ≤ b → b ≤ 102 → ⊥) → ⊥
digit_in b d h e f g = grind (arith, nat_tests)

-- all are hexadecimal digits
abbrev pub AreHex : List ℕ → Type 0
AreHex ds = AllByRecursion (λ b. (d : ℕ) × (d < 16) × (b ≡ hex_digit d)) ds

hex-append : (xs ys : List ℕ) → AreHex xs → AreHex ys → AreHex (xs ++ ys)
hex-append [] ys h g = g
hex-append (x ∷ xs) ys h g = (h.0, hex-append xs ys h.1 g)

are_hex : (n x : ℕ) → AreHex (hex_digits n x)
unfolding hex_digits
are_hex zero x = tt
are_hex (suc n) x = hex-append (hex_digits n (x / 16)) (hex_digit (x % 16) ∷ []) (are_hex n (x / 16))
    ((x % 16, omega arith, refl), tt)

hex_at : (ds : List ℕ) (i : ℕ) → AreHex ds → i < length ds → (d : ℕ) × (d < 16) × (get_or ds i 0 ≡ hex_digit d)
hex_at [] i h l = absurd (omega arith)
hex_at (b ∷ ds) zero h l = h.0
hex_at (b ∷ ds) (suc i) h l = hex_at ds i h.1 (omega arith)

-- an octet that is no digit is in no eight digits
pub no_digit : (ds : List ℕ) (i x : ℕ) → i < length ds → ((d : ℕ) → d < 16 → get_or ds i 0 ≡ hex_digit d → ⊥)
    → ds ≡ hex_digits 8 x → ⊥
no_digit ds i x l n e =
    let h : AreHex ds = rw e (are_hex 8 x) in
    let r = hex_at ds i h l in
    n r.0 r.1 r.2

pub wrong_length : (ds : List ℕ) (x : ℕ) → length ds ≢ 8 → ds ≡ hex_digits 8 x → ⊥
wrong_length ds x n e = n (ap length e ∙ length-hex 8 x)

-- The digits so far are those of the number so far.
pub record HexSoFar (ds : List ℕ) (i x : ℕ) : Type 0 where
  pub digits : take i ds ≡ hex_digits i x
  pub below : x < 16 ^ i

pub hex_none : (ds : List ℕ) → HexSoFar ds 0 0
unfolding hex_digits
hex_none ds = record { digits = refl; below = omega arith }

pub hex_more : (ds : List ℕ) (i x d : ℕ) → i < length ds → HexSoFar ds i x → d < 16 → get_or ds i 0 ≡ hex_digit d
    → HexSoFar ds (i + 1) (16 * x + d)
unfolding hex_digits
hex_more ds i x d l h g e =
    let s : i + 1 ≡ suc i = omega arith in
    let a : (16 * x + d) / 16 ≡ x = omega arith in
    let b : (16 * x + d) % 16 ≡ d = omega arith in
    let f : hex_digits (suc i) (16 * x + d) ≡ hex_digits i x ++ (hex_digit d ∷ []) = rw (a, b) refl in
    let m : take (i + 1) ds ≡ take i ds ++ (get_or ds i 0 ∷ []) = take_more ds i 0 l in
    let k : take i ds ++ (get_or ds i 0 ∷ []) ≡ hex_digits i x
    ++ (hex_digit d ∷ []) = ap (λ z. z ++ (get_or ds i 0 ∷ [])) h.digits ∙ ap (λ z. hex_digits i x ++ (z ∷ [])) e in
    let p = pow-succ' 16 i in
    let q = h.below in
    record {
      digits = m ∙ (k ∙ (sym f ∙ ap (λ n. hex_digits n (16 * x + d)) (sym s)));
      below = rw s (omega (arith, p, q));
    }

pub hex_bound : (ds : List ℕ) (i x : ℕ) → i < 8 → HexSoFar ds i x → x < 268435456
hex_bound ds i x l h =
    let e : i ≤ 7 = omega arith in
    let f = pow-le-pow_right {n = 16} (omega arith) e in
    let g = h.below in
    omega (arith, f)

pub hex_done : (ds : List ℕ) (i x : ℕ) → length ds ≡ 8 → length ds ≤ i → HexSoFar ds i x
    → (x < 2 ^ 32) × (ds ≡ hex_digits 8 x)
hex_done ds i x n l h =
    let t = take_all i ds l in
    let e : ds ≡ hex_digits i x = sym t ∙ h.digits in
    let k : i ≡ 8 = sym (length-hex i x) ∙ (sym (ap length e) ∙ n) in
    let g = h.below in
    let g' : x < 16 ^ 8 = rw k at g in
    (omega arith, e ∙ ap (λ z. hex_digits z x) k)
