-- What the decoder's steps say of the words left of an instruction.
use Rattle.std.specs.Prelude.{List, [], Option, Some, None}
use Rattle.spv_table.specs.Table.{Sort}
use Rattle.spv_table.specs.declared.table.Enumerant.{Enumerant}

-- the enumerants of a kind [own]
abbrev pub enumerants_at : Option Sort → List Enumerant
enumerants_at None = []
enumerants_at (Some s) = s.enumerants
