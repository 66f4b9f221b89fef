-- What a grammar file is refused for, in lines for people. (Own.)
use Rattle.std.specs.Prelude.{◌≡◌, ◌∷◌, ◌++◌, ◌+◌, ◌/◌, ◌%◌, ◌||◌, ℕ, List, [], Option, Some, None, codes}
use Rattle.std.specs.Prelude.{flat_map, nat_le, nat_lt, string_bytes, if◌then◌else◌}
use Rattle.spv_grammar.specs.Place.{Tells}
use Rattle.spv_grammar.specs.declared.place.GrammarFault.{GrammarFault}

-- a hexadecimal digit in lower case
abbrev pub digit_shown : ℕ → ℕ
digit_shown d = if nat_lt d 10 then 48 + d else 87 + d

-- an octet of ASCII that is no control character as it is, and any other one as `\xNN`
abbrev pub octet_shown : ℕ → List ℕ
octet_shown b =
    if nat_lt b 32 || nat_le 127 b then 92 ∷ 120 ∷ digit_shown (b / 16) ∷ digit_shown (b % 16) ∷ [] else b ∷ []

-- `KEY: TEXT` and a line feed
abbrev pub line_of : List ℕ → List ℕ → List ℕ
line_of key text = key ++ (codes ": " ++ (flat_map octet_shown text ++ 10 ∷ []))

-- the line of a path; the whole file has none
abbrev pub path_line : List ℕ → List ℕ
path_line [] = []
path_line (c ∷ cs) = line_of (codes "at") (c ∷ cs)

-- where a fault is, what stands there and what is wanted
abbrev pub fault_lines : GrammarFault → List ℕ
fault_lines f =
    path_line (string_bytes f.path)
    ++ (line_of (codes "found") (string_bytes f.found) ++ line_of (codes "wanted") f.wanted.now)

abbrev pub lines_of : Option GrammarFault → List ℕ
lines_of None = []
lines_of (Some f) = fault_lines f

-- The lines of what a text is refused for; none where it breaks no code.
pub record IsReason (text lines : List ℕ) : Type 0 where
  pub fault : Option GrammarFault
  pub tells : Tells text fault
  pub lines_are : lines ≡ lines_of fault
