-- What the search for implied capabilities does to the capabilities that it has reached. (Own.)
use Rattle.std.specs.Prelude.{◌≡◌, ℕ, Bool, true, List, [], ◌∷◌, ◌++◌, Option, Some, None, nat_eq}
use Rattle.std.specs.Prelude.{filter_map, if◌then◌else◌}
use Rattle.std.specs.BTreeSet.{contains}
use Rattle.std.specs.Ordering.{nat_cmp}
use Rattle.spv_table.specs.declared.table.Enumerant.{Enumerant}
use Rattle.spv_table.specs.declared.implied.Reached.{Reached}
use Rattle.spv_table.specs.Table.{enumerant_of}
use Rattle.spv_table.specs.Lookups.{value_named}

-- whether a capability was reached
abbrev pub is_reached : Reached → ℕ → Bool
is_reached r c = contains nat_cmp r.all c

-- one capability more is reached; it is due if it was not reached before
pub record Adds (old new : Reached) (c : ℕ) : Type 0 where
  pub all : (q : ℕ) → is_reached new q ≡ (if nat_eq c q then true else is_reached old q)
  pub due : new.due.items ≡ (if is_reached old c then old.due.items else old.due.items ++ c ∷ [])

-- capabilities are reached one after another
pub data AddsAll : List ℕ → Reached → Reached → Type 0 where
  none : (r : Reached) → AddsAll [] r r
  more : (cs : List ℕ) (c : ℕ) (old now new : Reached) → AddsAll cs old now → Adds now new c
      → AddsAll (cs ++ c ∷ []) old new

-- the names that an enumerant lists
abbrev pub names_of : Option Enumerant → List (List ℕ)
names_of None = []
names_of (Some e) = e.capabilities

-- the values of the enumerants that the first with a value lists by name
abbrev pub listed_by : List Enumerant → ℕ → List ℕ
listed_by es value = filter_map (value_named es) (names_of (enumerant_of es value))
