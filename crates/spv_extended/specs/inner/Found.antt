-- The sets of ids, as they are found. (For the code alone.)
use Rattle.std.specs.Prelude.{◌≡◌, ℕ, List, unwrap_or}
use Rattle.std.specs.BTreeMap as tree
use Rattle.std.specs.Ordering.{nat_cmp}
use Rattle.spv_module.specs.Operand.{PlainInst}
use Rattle.spv_extended.specs.declared.set.Set.{Set}
use Rattle.spv_extended.specs.declared.set.Set.TheVariants.{Other}
use Rattle.spv_extended.specs.Sets.{set_in}

-- the set that a map has for an id
abbrev pub set_found : tree.BTreeMap ℕ Set → ℕ → Set
set_found sets x = unwrap_or (tree.get nat_cmp sets x) Other

-- for each id the map has the set that instructions import
abbrev pub Finds : List PlainInst → tree.BTreeMap ℕ Set → Type 0
Finds is sets = (x : ℕ) → set_found sets x ≡ set_in is x
