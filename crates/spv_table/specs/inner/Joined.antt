-- Names that stand one after another in one text. (For the code alone.)
use Rattle.std.specs.Prelude.{◌≡◌, ◌≤◌, ℕ, zero, suc, List, [], ◌∷◌, length, slice_range, slice_index_or}
use Rattle.std.specs.Str.{IsCharBoundary}

-- the names between a place of a text and these ends
abbrev pub names_in : ℕ → List ℕ → List ℕ → List (List ℕ)
names_in begin text [] = []
names_in begin text (e ∷ es) = slice_range text begin e ∷ names_in e text es

-- where the name at a place begins
abbrev pub begin_of : ℕ → List ℕ → ℕ → ℕ
begin_of begin es zero = begin
begin_of begin es (suc i) = slice_index_or es i 0

-- where the last name ends
abbrev pub end_of : ℕ → List ℕ → ℕ
end_of begin [] = begin
end_of begin (e ∷ es) = end_of e es

-- each name ends between two characters, and not before it begins
abbrev pub AreEnds : ℕ → List ℕ → List ℕ → Type 0
AreEnds begin text [] = Unit {0}
AreEnds begin text (e ∷ es) = (begin ≤ e) × IsCharBoundary text e × AreEnds e text es

-- a text and its ends are these names, and nothing follows the last of them
pub record IsJoined (names : List (List ℕ)) (text es : List ℕ) : Type 0 where
  pub same : names_in 0 text es ≡ names
  pub ends : AreEnds 0 text es
  pub whole : end_of 0 es ≡ length text
