-- The table that constants tell. (For the code alone.)
use Rattle.std.specs.Prelude.{map}
use Rattle.spv_table.specs.declared.constants.Constants.{Constants}
use Rattle.spv_table.specs.Rows.{entry_in, sort_in}
use Rattle.spv_table.specs.Table.{Table}

abbrev pub table_in : Constants → Table
table_in c =
    record {
      kinds = map (sort_in c.text.now c.numbers.now c.names.now c.enumerants.now) c.kinds.now;
      entries = map (entry_in c.text.now c.items.now c.names.now) c.entries.now;
    }
