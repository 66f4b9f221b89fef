-- How a text stands in a line, so that a line is one line and a terminal takes no orders. (Own.)
use Rattle.std.specs.Prelude.{◌∷◌, ◌++◌, ◌/◌, ◌%◌, ◌==◌, ◌||◌, ◌&&◌, ℕ, List, [], Bool, nat_le, nat_lt, if◌then◌else◌}
use Rattle.spv_lines.specs.Digits.{hex_digit}

-- is a byte a control character
abbrev pub is_control : ℕ → Bool
is_control b = nat_lt b 32 || b == 127

-- are two bytes together one of the control characters from U+0080 to U+009F, in UTF-8
abbrev pub is_late_control : ℕ → ℕ → Bool
is_late_control a b = a == 194 && (nat_le 128 b && nat_lt b 160)

-- a byte as `\xNN`
abbrev pub escaped : ℕ → List ℕ
escaped b = 92 ∷ 120 ∷ hex_digit (b / 16) ∷ hex_digit (b % 16) ∷ []

-- a byte that is a control character as `\xNN`, and any other byte as it is
abbrev pub plain_byte : ℕ → List ℕ
plain_byte b = if is_control b then escaped b else b ∷ []

-- a text without control characters: each byte of one as `\xNN`
abbrev pub plain_of : List ℕ → List ℕ
plain_of [] = []
plain_of (a ∷ []) = plain_byte a
plain_of (a ∷ b ∷ text) =
    if is_late_control a b then escaped a ++ (escaped b ++ plain_of text) else plain_byte a ++ plain_of (b ∷ text)
