-- Octets of ASCII that are no control characters. (For the code alone.)
use Rattle.std.specs.Prelude.{◌&&◌, ◌||◌, ℕ, List, Bool, nat_eq, nat_le, nat_lt, not}
use Rattle.std.specs.List.{list_all}
use Rattle.spv_annotate.specs.Html.{is_marked}

abbrev pub is_tame_octet : ℕ → Bool
is_tame_octet b = nat_le 32 b && nat_lt b 127

-- which stands in HTML for itself, so that it takes one octet in a page
abbrev pub is_single : ℕ → Bool
is_single b = is_tame_octet b && not (is_marked b)

-- or a line feed
abbrev pub is_line_octet : ℕ → Bool
is_line_octet b = nat_eq b 10 || is_tame_octet b

-- lines of such octets
abbrev pub are_tame_lines : List (List ℕ) → Bool
are_tame_lines lines = list_all (list_all is_tame_octet) lines
