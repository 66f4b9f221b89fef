-- The entries of a table, wherever they are. (For the code alone.)
use Rattle.std.specs.Prelude.{ℕ, List}
use Rattle.spv_table.specs.declared.table.Entry.{Entry}
use Rattle.spv_table.specs.declared.entries.Kept.{Kept}
use Rattle.spv_table.specs.declared.entries.Kept.TheVariants.{Made, Told}

abbrev pub entries_in : Kept → List (ℕ × Entry)
entries_in (Made made) = made
entries_in (Told told) = told
