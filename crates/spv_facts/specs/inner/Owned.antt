-- The operands of types, as they are kept. (For the code alone.)
use Rattle.std.specs.Prelude.{◌≡◌, ℕ, List, [], Option, Some, None, option_map, unwrap_or}
use Rattle.std.specs.Ordering.{nat_cmp}
use Rattle.std.specs.BTreeMap.{get}
use Rattle.spv_facts.specs.declared.owners.Owners.{Owners}
use Rattle.spv_facts.specs.Owners.{places_in}

-- the numbers that are kept of a type, and of one, if there is one
abbrev pub listed : Owners → ℕ → List ℕ
listed o t = unwrap_or (option_map (λ v. v.items) (get nat_cmp o.places t)) []

abbrev pub listed_of : Owners → Option ℕ → List ℕ
listed_of o None = []
listed_of o (Some t) = listed o t

-- of each type the operands are kept that are of it, where these are the types of all
abbrev pub AreOwners : Owners → List (Option ℕ) → Type 0
AreOwners o us = (t : Option ℕ) → listed_of o t ≡ places_in t us
