-- Tests of what is kept of rows: places by their numbers, and how many items are optional. (For the code alone.)
use Rattle.std.specs.Prelude.{ℕ, zero, suc, ◌-◌, List, [], ◌∷◌, ◌++◌, Bool, true, false, ◌&&◌}
use Rattle.std.specs.Prelude.{nat_eq, nat_le, nat_lt, if◌then◌else◌, length, map, drop, replicate, slice_index_or}
use Rattle.std.specs.List.{list_all}
use Rattle.spv_table.specs.declared.table.Item.{Item}
use Rattle.spv_table.specs.declared.table.Quantifier.{Quantifier}
use Rattle.spv_table.specs.declared.table.Quantifier.TheVariants.{One, Maybe, Many}
use Rattle.spv_table.specs.declared.row.EntryRow.{EntryRow}
use Rattle.spv_table.specs.declared.row.EnumerantRow.{EnumerantRow}
use Rattle.spv_table.specs.Span.{spanned}

-- Places of numbers that never go down, from a number on, for each the place of the first that is it: the first of these
-- is at a place.
unfoldable pub fill : ℕ → ℕ → List ℕ → List ℕ
fill n at [] = []
fill n at (m ∷ ms) =
    if nat_lt m n then fill n (suc at) ms
    else replicate (m - n) 4294967295 ++ at ∷ fill (suc m) (suc at) ms

-- do the numbers never go down, from one on
unfoldable pub rise : ℕ → List ℕ → Bool
rise last [] = true
rise last (m ∷ ms) = nat_le last m && rise m ms

-- the place of the first number that is n, of numbers the first of which is at a place
unfoldable pub first_place : ℕ → ℕ → List ℕ → ℕ
first_place n at [] = 4294967295
first_place n at (m ∷ ms) = if nat_eq m n then at else first_place n (suc at) ms

-- are the places of so many numbers from 0 on those of the first that are them
unfoldable pub are_first : ℕ → List ℕ → List ℕ → Bool
are_first zero near ms = true
are_first (suc n) near ms = nat_eq (slice_index_or near n 4294967295) (first_place n 0 ms) && are_first n near ms

abbrev pub are_near : List ℕ → List EnumerantRow → Bool
are_near near rows = nat_lt (length rows) 4294967296 && are_first 64 near (map (λ r. r.0) rows)

-- may an item be absent; are so many items at the end optional; is it so of each row
abbrev pub may_lack : Quantifier → Bool
may_lack One = false
may_lack Maybe = true
may_lack Many = true

abbrev pub end_optional : ℕ → List Item → Bool
end_optional n is = nat_le n (length is) && list_all (λ i. may_lack i.quantifier) (drop (length is - n) is)

unfoldable pub are_counted : List Item → List EntryRow → Bool
are_counted items rows = list_all (λ r. end_optional r.4 (spanned items r.2)) rows
