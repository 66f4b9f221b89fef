-- The names of a list, wherever it lies. (For the code alone.)
use Rattle.std.specs.Prelude.{ℕ, List}
use Rattle.spv_table.specs.declared.name_list_ref.Found.{Found}
use Rattle.spv_table.specs.declared.name_list_ref.Found.TheVariants.{Owned, Spanned}

abbrev pub names_found : Found → List (List ℕ)
names_found (Owned names) = names.now
names_found (Spanned names) = names
