-- The items of a list, wherever it has them. (For the code alone.)
use Rattle.std.specs.Prelude.{List}
use Rattle.spv_table.specs.declared.listed.Items.{Items}
use Rattle.spv_table.specs.declared.listed.Items.TheVariants.{Own, Lent}

abbrev pub items_in : {T : Type 0} → Items T → List T
items_in (Own list) = list.items
items_in (Lent list) = list.now
