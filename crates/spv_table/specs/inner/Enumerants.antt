-- The enumerants of a kind, wherever they are. (For the code alone.)
use Rattle.std.specs.Prelude.{List}
use Rattle.spv_table.specs.declared.table.Enumerant.{Enumerant}
use Rattle.spv_table.specs.declared.enumerants.Kept.{Kept}
use Rattle.spv_table.specs.declared.enumerants.Kept.TheVariants.{Made, Told}

abbrev pub enumerants_in : Kept → List Enumerant
enumerants_in (Made made) = made.now
enumerants_in (Told told) = told
