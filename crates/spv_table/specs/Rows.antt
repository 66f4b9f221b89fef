-- What rows of numbers tell, by spans of lists and of a text. (Own.)
use Rattle.std.specs.Prelude.{ℕ, List, map}
use Rattle.spv_table.specs.declared.table.Entry.{Entry}
use Rattle.spv_table.specs.declared.table.Enumerant.{Enumerant}
use Rattle.spv_table.specs.declared.table.Item.{Item}
use Rattle.spv_table.specs.declared.span.Span.{Span}
use Rattle.spv_table.specs.declared.row.EntryRow.{EntryRow}
use Rattle.spv_table.specs.declared.row.EnumerantRow.{EnumerantRow}
use Rattle.spv_table.specs.declared.row.KindRow.{KindRow}
use Rattle.spv_table.specs.Span.{spanned}
use Rattle.spv_table.specs.Table.{Sort}

-- the names whose places in a text are at a span of a list [own]
abbrev pub names_at : List ℕ → List Span → Span → List (List ℕ)
names_at text names s = map (spanned text) (spanned names s)

-- the entry of a row, with its opcode; the enumerant of a row [own]
abbrev pub entry_in : List ℕ → List Item → List Span → EntryRow → ℕ × Entry
entry_in text items names r = (
  r.0,
  record {
    name = spanned text r.1;
    operands = spanned items r.2;
    capabilities = names_at text names r.3;
  },
)

abbrev pub enumerant_in : List ℕ → List ℕ → List Span → EnumerantRow → Enumerant
enumerant_in text numbers names r =
    record {
      name = spanned text r.1;
      value = r.0;
      parameters = spanned numbers r.2;
      capabilities = names_at text names r.3;
    }

-- the kind of a row with its enumerants [own]
abbrev pub sort_in : List ℕ → List ℕ → List Span → List EnumerantRow → KindRow → Sort
sort_in text numbers names enumerants r =
    record {
      kind = record { name = spanned text r.1; category = r.0; bases = spanned numbers r.2 };
      enumerants = map (enumerant_in text numbers names) (spanned enumerants r.3);
    }
