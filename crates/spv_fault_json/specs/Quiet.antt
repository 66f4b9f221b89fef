-- JSON texts without control characters, so that a terminal takes no orders. (Own.)
use Rattle.std.specs.Prelude.{◌∷◌, ◌++◌, ◌/◌, ◌%◌, ◌==◌, ℕ, List, [], codes, if◌then◌else◌}
use Rattle.spv_lines.specs.Digits.{hex_digit}
use Rattle.spv_lines.specs.Plain.{is_late_control}

-- a character below U+0100 as JSON escapes it, `\u009b` [RFC 8259, 7]
abbrev pub unicode_escape : ℕ → List ℕ
unicode_escape c = codes "\\u00" ++ hex_digit (c / 16) ∷ hex_digit (c % 16) ∷ []

-- a byte as it is, but DEL as an escape
abbrev pub quiet_byte : ℕ → List ℕ
quiet_byte b = if b == 127 then unicode_escape b else b ∷ []

-- A JSON text with DEL and the control characters from U+0080 to U+009F as escapes: they stand in its strings alone,
-- where the others are escaped already. The number of a late one is its second byte.
abbrev pub quiet_of : List ℕ → List ℕ
quiet_of [] = []
quiet_of (a ∷ []) = quiet_byte a
quiet_of (a ∷ b ∷ text) =
    if is_late_control a b then unicode_escape b ++ quiet_of text else quiet_byte a ++ quiet_of (b ∷ text)
