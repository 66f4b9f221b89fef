-- The octets of a name, wherever it has them. (For the code alone.)
use Rattle.std.specs.Prelude.{ℕ, List, string_bytes}
use Rattle.spv_table.specs.declared.name.Octets.{Octets}
use Rattle.spv_table.specs.declared.name.Octets.TheVariants.{Own, Part, Lent}

abbrev pub octets_in : Octets → List ℕ
octets_in (Own text) = string_bytes text
octets_in (Part part) = part
octets_in (Lent text) = text.now
