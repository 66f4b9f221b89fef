-- The capabilities that a module has by those that it declares. (SPIR-V Specification 1.6, section 3.31, Capability,
-- "Implicitly Declares".)
use Rattle.std.specs.Prelude.{◌≡◌, ℕ, List, [], Option, Some, None, Contains, option_and_then, codes}
use Rattle.spv_table.specs.declared.table.Enumerant.{Enumerant}
use Rattle.spv_table.specs.Table.{Table, Sort, kind_of, enumerant_of}
use Rattle.spv_table.specs.Lookups.{value_named, number_named}

-- the capabilities of a table: the enumerants of the kind named Capability, none where there is no such kind [3.31]
abbrev pub enumerants_of : Option Sort → List Enumerant
enumerants_of None = []
enumerants_of (Some s) = s.enumerants

abbrev pub capabilities_in : Table → List Enumerant
capabilities_in G = enumerants_of (option_and_then (kind_of G) (number_named G (codes "Capability")))

-- a capability lists another: the first enumerant of its value has among its capabilities a name, and the first
-- enumerant that bears the name has the other's value. A name that none bears lists nothing [3.31]
pub record Lists (G : Table) (capability other : ℕ) : Type 0 where
  pub enumerant : Enumerant
  pub is : enumerant_of (capabilities_in G) capability ≡ Some enumerant
  pub name : List ℕ
  pub listed : Contains enumerant.capabilities name
  pub names : value_named (capabilities_in G) name ≡ Some other

-- a chain of capabilities, each of which lists the next; a capability is implied if it ends a chain that begins with a
-- declared one, which counts though the table has no such capability [3.31]
pub data CapabilityChain (G : Table) : ℕ → ℕ → Type 0 where
  here : (a : ℕ) → CapabilityChain G a a
  step : (a b c : ℕ) → Lists G a b → CapabilityChain G b c → CapabilityChain G a c

pub record Implied (G : Table) (declared : List ℕ) (capability : ℕ) : Type 0 where
  pub first : ℕ
  pub declares : Contains declared first
  pub chain : CapabilityChain G first capability
