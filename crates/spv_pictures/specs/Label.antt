-- Texts and ids as they stand in a picture. (Own.)
use Rattle.std.specs.Prelude.{◌++◌, ◌==◌, ◌||◌, ◌&&◌, ℕ, List, [], ◌∷◌, Option, Some, None, Bool, codes, decimal}
use Rattle.std.specs.Prelude.{encode_utf8, flat_map, nat_le, nat_lt, if◌then◌else◌}
use Rattle.std.specs.Str.{chars}
use Rattle.spv_lines.specs.Plain.{escaped}

-- is a character not drawn as it is: one of the control characters, from U+0000 to U+001F and from U+007F to U+009F, or
-- U+FFFE or U+FFFF, which XML does not have
abbrev pub is_hidden : ℕ → Bool
is_hidden c = nat_lt c 32 || ((nat_le 127 c && nat_lt c 160) || (c == 65534 || c == 65535))

-- a character as it is drawn: each byte of a hidden one as `\xNN`, any other one as it is
abbrev pub drawn : ℕ → List ℕ
drawn c = if is_hidden c then flat_map escaped (encode_utf8 c) else encode_utf8 c

-- a text as it is drawn
abbrev pub drawn_text : List ℕ → List ℕ
drawn_text t = flat_map drawn (chars t)

-- a byte in a label, which is HTML: the five that HTML reads as more than themselves as entities, and a backslash, in
-- which graphviz sees an order, twice
abbrev pub marked : ℕ → List ℕ
marked b = if b == 38 then codes "&amp;" else (if b == 60 then codes "&lt;" else (if b == 62 then codes "&gt;"
    else (if b == 34 then codes "&quot;" else (if b == 39 then codes "&#39;"
    else (if b == 92 then codes "\\\\" else b ∷ [])))))

-- a text as it stands in a label
abbrev pub label_text : List ℕ → List ℕ
label_text t = flat_map marked (drawn_text t)

-- an id, as `%7`; `%` alone where there is none
abbrev pub shown_id : Option ℕ → List ℕ
shown_id None = codes "%"
shown_id (Some x) = codes "%" ++ decimal x

-- the name of a node: its id, without the `%`, since graphviz keeps names with one to itself; `?` where there is none
abbrev pub node_name : Option ℕ → List ℕ
node_name None = codes "\"?\""
node_name (Some x) = codes "\"" ++ (decimal x ++ codes "\"")
