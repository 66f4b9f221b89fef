-- A header for the worked examples: version 1.6, generator 7, bound 5. (Own.)
use Rattle.std.specs.Prelude.{ℕ, List, [], ◌∷◌}

-- its words
abbrev pub header_words : List ℕ
header_words = 119734787 ∷ 67072 ∷ 7 ∷ 5 ∷ 0 ∷ []

-- its bytes, the lowest of each word first
abbrev pub little_header : List ℕ
little_header = 3 ∷ 2 ∷ 35 ∷ 7 ∷ 0 ∷ 6 ∷ 1 ∷ 0 ∷ 7 ∷ 0 ∷ 0 ∷ 0 ∷ 5 ∷ 0 ∷ 0 ∷ 0 ∷ 0 ∷ 0
    ∷ 0 ∷ 0 ∷ []

-- its bytes, the highest of each word first
abbrev pub big_header : List ℕ
big_header = 7 ∷ 35 ∷ 2 ∷ 3 ∷ 0 ∷ 1 ∷ 6 ∷ 0 ∷ 0 ∷ 0 ∷ 0 ∷ 7 ∷ 0 ∷ 0 ∷ 0 ∷ 5 ∷ 0 ∷ 0
    ∷ 0 ∷ 0 ∷ []
