-- The table of limits. [2.17]
use Rattle.std.specs.Prelude.{ℕ, List, [], ◌∷◌, if◌then◌else◌, nat_eq}
use denote.Enum.Declared.{tag_of}
use Rattle.spv_limits.specs.declared.table.Limit.{Limit}
use Rattle.spv_limits.specs.declared.table.TheConstants.{TABLE}
use Rattle.spv_limits.specs.contracts.table.Limit.{the_type}

-- the number of the first line of a limit; 0 where it has none [own]
abbrev pub most_in : List (Limit × ℕ) → Limit → ℕ
most_in [] limit = 0
most_in (l ∷ ls) limit = if nat_eq (tag_of the_type l.0) (tag_of the_type limit) then l.1 else most_in ls limit

-- the greatest number that a limit allows, by the table of src/table.rt [2.17]
abbrev pub most : Limit → ℕ
most limit = most_in TABLE limit
