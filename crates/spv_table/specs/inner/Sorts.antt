-- The kinds of a table, wherever they are. (For the code alone.)
use Rattle.std.specs.Prelude.{List}
use Rattle.spv_table.specs.Table.{Sort}
use Rattle.spv_table.specs.declared.sorts.Kept.{Kept}
use Rattle.spv_table.specs.declared.sorts.Kept.TheVariants.{Made, Told}

abbrev pub sorts_in : Kept → List Sort
sorts_in (Made made) = made
sorts_in (Told told) = told
