-- What stands in quotes where an octet is no plain one. (Own.) (For the code alone.)
use Rattle.std.specs.Prelude.{◌≡◌, ◌∷◌, ℕ, List}
use Rattle.spv_lines.specs.declared.quoted.Mark.{Mark}
use Rattle.spv_lines.specs.declared.quoted.Mark.TheVariants.{End, Escape, Wrong}

-- how a character stands behind `\`
pub data IsEscape : ℕ → ℕ → Type 0 where
  quote : IsEscape 34 34
  slash : IsEscape 92 92
  feed : IsEscape 110 10

-- the closing quote, an escaped character, or neither
abbrev pub IsMark : List ℕ → Mark → Type 0
IsMark t (End u) = t ≡ 34 ∷ u.now
IsMark t (Escape c u) = (b : ℕ) × IsEscape b c × (t ≡ 92 ∷ b ∷ u.now)
IsMark t Wrong =
    ((u : List ℕ) → t ≡ 34 ∷ u → ⊥)
    × ((b c : ℕ) (u : List ℕ) → IsEscape b c → t ≡ 92 ∷ b ∷ u → ⊥)
