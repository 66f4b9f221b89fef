-- A text in HTML, and what is read of HTML. (HTML Living Standard, 13.1.4, 13.2.5; own.)
use Rattle.std.specs.Prelude.{◌++◌, ◌==◌, ◌||◌, ℕ, List, [], ◌∷◌, Bool, not, bytes_eq, codes, flat_map, if◌then◌else◌}

-- does a byte stand in HTML for something else than itself: `<`, `>`, `&`, `"` and `'`
abbrev pub is_marked : ℕ → Bool
is_marked b = b == 60 || (b == 62 || (b == 38 || (b == 34 || b == 39)))

-- a byte as it is written in HTML: such a one by a character reference, any other as it is
abbrev pub escaped_byte : ℕ → List ℕ
escaped_byte b =
    if b == 60 then codes "&lt;" else (if b == 62 then codes "&gt;" else (if b == 38 then codes "&amp;" else
    (if b == 34 then codes "&quot;" else (if b == 39 then codes "&#39;" else b ∷ []))))

-- a text as it is written in HTML
abbrev pub escaped : List ℕ → List ℕ
escaped text = flat_map escaped_byte text

-- can a byte begin or end neither a tag nor a value of an attribute
abbrev pub is_harmless : ℕ → Bool
is_harmless b = not (b == 60 || (b == 62 || (b == 34 || b == 39)))

-- where a reader of HTML stands: in a text, in a tag, or in a character reference, behind these letters of it
pub data Place : Type 0 where
  InText : Place
  InTag : Place
  InReference : List ℕ → Place

-- what a character reference stands for: that of a byte above, and nothing for any other
abbrev pub referred : List ℕ → List ℕ
referred name =
    if bytes_eq name (codes "lt") then 60 ∷ [] else (if bytes_eq name (codes "gt") then 62 ∷ [] else
    (if bytes_eq name (codes "amp") then 38 ∷ [] else (if bytes_eq name (codes "quot") then 34 ∷ [] else
    (if bytes_eq name (codes "#39") then 39 ∷ [] else []))))

-- The text that is read of HTML from a place on: tags, from `<` to `>`, are left out, and each reference, from `&` to
-- `;`, is what it stands for.
abbrev pub read_from : Place → List ℕ → List ℕ
read_from place [] = []
read_from InText (b ∷ html) =
    if b == 60 then read_from InTag html
    else (if b == 38 then read_from (InReference []) html else b ∷ read_from InText html)
read_from InTag (b ∷ html) = if b == 62 then read_from InText html else read_from InTag html
read_from (InReference name) (b ∷ html) =
    if b == 59 then referred name ++ read_from InText html else read_from (InReference (name ++ b ∷ [])) html

-- the text of HTML: without tags, and character references read
abbrev pub untagged : List ℕ → List ℕ
untagged html = read_from InText html
