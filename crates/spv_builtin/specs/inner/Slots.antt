-- Tests of rows: that slots find the names, and that the values of enumerants never go down. (For the code alone.)
use Rattle.std.specs.Prelude.{ℕ, zero, suc, ◌-◌, List, [], ◌∷◌, Bool, true, false, ◌&&◌}
use Rattle.std.specs.Prelude.{nat_eq, nat_le, nat_lt, if◌then◌else◌, length, map, take, drop}
use Rattle.std.specs.List.{list_all}
use Rattle.spv_table.specs.declared.span.Span.{Span}
use Rattle.spv_table.specs.Span.{spanned}
use Rattle.spv_table.specs.inner.Named.{slot_in}
use Rattle.spv_table.specs.declared.row.EnumerantRow.{EnumerantRow}
use Rattle.spv_table.specs.declared.row.KindRow.{KindRow}
use Rattle.spv_builtin.specs.inner.Places.{are_near}

-- is a text ASCII
unfoldable pub is_ascii : List ℕ → Bool
is_ascii octets = list_all (λ o. nat_lt o 128) octets

-- where the first of some spans begins
abbrev pub begin_of : List Span → ℕ
begin_of [] = 0
begin_of (s ∷ ss) = s.0

-- does each of some spans begin where the one before ends; the parts of a text from a place on at such spans
unfoldable pub follow : ℕ → List Span → Bool
follow at [] = true
follow at (s ∷ ss) = nat_eq s.0 at && (nat_le at s.1 && follow s.1 ss)

unfoldable pub cut : ℕ → List ℕ → List Span → List (List ℕ)
cut at text [] = []
cut at text (s ∷ ss) = take (s.1 - at) text ∷ cut s.1 (drop (s.1 - at) text) ss

-- does one of the first slots, so many, hold a place, and none before it a greater one
unfoldable pub is_held : ℕ → ℕ → List ℕ → Bool
is_held place zero slots = false
is_held place (suc n) [] = false
is_held place (suc n) (p ∷ ps) = if nat_eq p place then true else (nat_lt p place && is_held place n ps)

-- is the place of each of some names, from this one on, in a slot of the name
unfoldable pub are_held : ℕ → List ℕ → ℕ → List (List ℕ) → Bool
are_held count slots place [] = true
are_held count slots place (q ∷ qs) =
    is_held place 8 (drop (slot_in count q) slots) && are_held count slots (suc place) qs

-- do slots find the names at some spans of a text
unfoldable pub find : List ℕ → List ℕ → List Span → Bool
find text slots spans =
    nat_lt 8 (length slots) && (nat_lt (length spans) 4294967296 && (follow (begin_of spans) spans
    && are_held (length slots - 8) slots 0 (cut (begin_of spans) (drop (begin_of spans) text) spans)))

-- do the values never go down, from one on
unfoldable pub never_down : ℕ → List EnumerantRow → Bool
never_down last [] = true
never_down last (r ∷ rs) = nat_le last r.0 && never_down r.0 rs

-- do enumerants, slots and near places pass all tests; do those of a kind
abbrev pub all_pass : List ℕ → List EnumerantRow → List ℕ → List ℕ → Bool
all_pass text rows slots near =
    never_down 0 rows && (find text slots (map (λ r. r.1) rows) && are_near near rows)

unfoldable pub passes : List ℕ → List EnumerantRow → List ℕ → List ℕ → KindRow → Bool
passes text enumerants slots near r = all_pass text (spanned enumerants r.3) (spanned slots r.4) (spanned near r.5)
