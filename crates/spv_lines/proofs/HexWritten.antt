-- Hexadecimal digits, one after another.
use Rattle.std.proofs.Common.{◌≡◌, ◌++◌, ◌∙◌, ◌/◌, ◌%◌, ℕ, suc, List, [], ◌∷◌, ap, append_assoc}
use Rattle.spv_lines.specs.Digits.{hex_digit, hex_digits}

pub more_digits : (n x : ℕ) (old mid new : List ℕ) → mid ≡ old ++ hex_digits n (x / 16)
    → new ≡ mid ++ (hex_digit (x % 16) ∷ [])
    → new ≡ old ++ hex_digits (suc n) x
unfolding hex_digits
more_digits n x old mid new f g =
    g ∙ (ap (λ z. z ++ (hex_digit (x % 16) ∷ [])) f
    ∙ append_assoc old (hex_digits n (x / 16)) (hex_digit (x % 16) ∷ []))

pub first_digit : (x : ℕ) (old new : List ℕ) → new ≡ old ++ (hex_digit (x % 16) ∷ []) → new ≡ old ++ hex_digits 1 x
unfolding hex_digits
first_digit x old new f = f
