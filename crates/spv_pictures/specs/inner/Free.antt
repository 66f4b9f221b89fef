-- Bytes and characters that stand in a label as they are. (For the code alone.)
use Rattle.std.specs.Prelude.{◌==◌, ◌||◌, ◌&&◌, ℕ, Bool, not, nat_le, nat_lt}

-- does a label have a byte or a character as it is
abbrev pub is_free : ℕ → Bool
is_free b = not (b == 38 || (b == 60 || (b == 62 || (b == 34 || (b == 39 || b == 92)))))

-- is a byte an ASCII character that a label has as it is
abbrev pub is_plain : ℕ → Bool
is_plain b = nat_le 32 b && (nat_lt b 127 && is_free b)
