-- The built-in table, by rows of constants. (Own.)
use Rattle.std.specs.Prelude.{◌≡◌, map}
use Rattle.spv_table.specs.Rows.{entry_in, sort_in}
use Rattle.spv_table.specs.Table.{Table}
use Rattle.spv_builtin.specs.declared.constants.TheConstants.{TEXT, ITEMS, NUMBERS, NAMES, KINDS, ENUMERANTS, ENTRIES}

-- the built-in table [own]
unfoldable pub built_in : Table
built_in =
    record {
      kinds = map (sort_in TEXT.now NUMBERS NAMES ENUMERANTS) KINDS;
      entries = map (entry_in TEXT.now ITEMS NAMES) ENTRIES;
    }

abbrev pub IsBuiltIn : Table → Type 0
IsBuiltIn G = G ≡ built_in
