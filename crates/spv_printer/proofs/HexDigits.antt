-- Hexadecimal digits, the highest first.
use Rattle.std.proofs.Common.{◌≡◌, ◌++◌, ◌∙◌, ◌<◌, ◌+◌, ◌-◌, ◌*◌, ◌/◌, ◌%◌, ◌^◌, ℕ, suc, List, [], ◌∷◌, refl, sym, ap}
use Rattle.std.proofs.Common.{arith, append_assoc}
use Rattle.std.proofs.Math.Nat.{pow-succ', div-div-eq-div-mul}
use Rattle.spv_lines.specs.Digits.{hex_digit, hex_digits}

sixteen : (j : ℕ) → 2 ^ j * 16 ≡ 2 ^ suc (suc (suc (suc j)))
sixteen j = rw (pow-succ' 2 (suc (suc (suc j))), pow-succ' 2 (suc (suc j)), pow-succ' 2 (suc j), pow-succ' 2 j)
    (omega arith)

pub hex_more : (k w : ℕ) → k < 8
    → hex_digits (k + 1) (w / 2 ^ (32 - 4 * (k + 1))) ≡ hex_digits k (w / 2 ^ (32 - 4 * k))
    ++ (hex_digit (w / 2 ^ (28 - 4 * k) % 16) ∷ [])
unfolding hex_digits
hex_more k w h =
    let a : k + 1 ≡ suc k = omega arith in
    let b : 32 - 4 * (k + 1) ≡ 28 - 4 * k = omega arith in
    let d : 32 - 4 * k ≡ suc (suc (suc (suc (28 - 4 * k)))) = omega arith in
    let e : w / 2 ^ (28 - 4 * k) / 16 ≡ w / 2 ^ (32 - 4 * k) = div-div-eq-div-mul w (2 ^ (28 - 4 * k)) 16
    ∙ ap (λ z. w / z) (sixteen (28 - 4 * k) ∙ ap (λ z. 2 ^ z) (sym d)) in
    ap (λ z. hex_digits z (w / 2 ^ (32 - 4 * (k + 1)))) a
    ∙ (ap (λ z. hex_digits (suc k) (w / 2 ^ z)) b
    ∙ ap (λ z. hex_digits k z ++ (hex_digit (w / 2 ^ (28 - 4 * k) % 16) ∷ [])) e)

pub hex_first : (old : List ℕ) (w : ℕ) → old ≡ old ++ hex_digits 0 (w / 2 ^ 32)
unfolding hex_digits
hex_first old w = sym append-nil
  where
    append-nil : old ++ [] ≡ old
    append-nil = Rattle.std.proofs.lemmas.List.append-nil old

pub hex_step : (k w : ℕ) (old out more : List ℕ) (x : ℕ) → k < 8 → out ≡ old ++ hex_digits k (w / 2 ^ (32 - 4 * k))
    → x ≡ hex_digit (w / 2 ^ (28 - 4 * k) % 16) → more ≡ out ++ (x ∷ [])
    → more ≡ old ++ hex_digits (k + 1) (w / 2 ^ (32 - 4 * (k + 1)))
hex_step k w old out more x h e f g =
    let a = hex_more k w h in
    let b : more ≡ (old ++ hex_digits k (w / 2 ^ (32 - 4 * k))) ++ (hex_digit (w / 2 ^ (28 - 4 * k) % 16) ∷ []) = cc in
    b ∙ (append_assoc old (hex_digits k (w / 2 ^ (32 - 4 * k))) (hex_digit (w / 2 ^ (28 - 4 * k) % 16) ∷ [])
    ∙ ap (λ z. old ++ z) (sym a))

pub hex_last : (k w : ℕ) (old out : List ℕ) → k ≡ 8 → out ≡ old ++ hex_digits k (w / 2 ^ (32 - 4 * k))
    → out ≡ old ++ hex_digits 8 w
hex_last k w old out e f =
    let a : 2 ^ (32 - 4 * k) ≡ 1 = rw e refl in
    let b : w / 2 ^ (32 - 4 * k) ≡ w = rw a (omega arith) in
    f ∙ (ap (λ z. old ++ hex_digits z (w / 2 ^ (32 - 4 * k))) e ∙ ap (λ z. old ++ hex_digits 8 z) b)
