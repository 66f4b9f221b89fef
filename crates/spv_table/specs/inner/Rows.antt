-- Names that rows tell, and what is known of rows that are lent. (For the code alone.)
use Rattle.std.specs.Prelude.{◌≡◌, ◌<◌, ◌≤◌, ℕ, List, [], length, slice_get, slice_index_or, Contains}
use Rattle.std.specs.List.Sorted.{IsNonDecreasingBy}
use Rattle.spv_table.specs.declared.table.Item as declared
use Rattle.spv_table.specs.declared.span.Span.{Span}
use Rattle.spv_table.specs.declared.row.EntryRow.{EntryRow}
use Rattle.spv_table.specs.declared.row.EnumerantRow.{EnumerantRow}
use Rattle.spv_table.specs.declared.row.KindRow.{KindRow}
use Rattle.spv_table.specs.Span.{spanned}
use Rattle.spv_table.specs.Table.{first_with}
use Rattle.spv_table.specs.inner.Named.{Finds}
use Rattle.spv_table.specs.inner.Pattern.{EndsOptional}

-- the name that a row tells
abbrev pub told : {R : Type 0} → List ℕ → (R → Span) → R → List ℕ
told text span r = spanned text (span r)

-- so many items at the end of the row's pattern are optional
abbrev pub IsCounted : List declared.Item → EntryRow → Type 0
IsCounted items r = (r.4 ≤ length (spanned items r.2)) × EndsOptional r.4 (spanned items r.2)

-- the same of each of some rows
abbrev pub AreCounted : List declared.Item → List EntryRow → Type 0
AreCounted items rows = (r : EntryRow) → Contains rows r → IsCounted items r

-- for each value below 64 the place of the first row that has it
abbrev pub AreNear : List ℕ → List EnumerantRow → Type 0
AreNear near rows =
    (v : ℕ) → v < 64 → slice_get rows (slice_index_or near v 4294967295) ≡ first_with (λ r. r.0) v rows

-- enumerants whose values never go down, slots that find their names, and places of those with small values
pub record AreEnumerants (text : List ℕ) (rows : List EnumerantRow) (slots near : List ℕ) : Type 0 where
  pub ordered : IsNonDecreasingBy (λ r. r.0) rows
  pub finds : Finds (told text (λ (r : EnumerantRow). r.1)) rows (record { slots = slots; others = [] })
  pub places : AreNear near rows

-- the same of each of some kinds
abbrev pub AreKinds : List ℕ → List EnumerantRow → List ℕ → List ℕ → List KindRow → Type 0
AreKinds text enumerants slots near rows =
    (r : KindRow) → Contains rows r → AreEnumerants text (spanned enumerants r.3) (spanned slots r.4) (spanned near r.5)
