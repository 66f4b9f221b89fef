-- Parts of what the rules C2, E1 and E2 demand, by names of their own: evidence speaks of them. [2.16.1, 3.20, 3.31]
use Rattle.std.specs.Prelude.{◌≢◌, ◌⊎◌, ℕ, List, Some, codes, IfSome}
use Rattle.std.specs.List.{AllByRecursion}
use Rattle.spv_table.specs.Table.{Table, entry_of}
use Rattle.spv_table.specs.Lookups.{number_named}
use Rattle.spv_module.specs.Operand.{PlainInst}
use Rattle.spv_module.specs.declared.opcode.TheConstants as opcode
use Rattle.spv_ids.specs.Order.{HasOpcode}
use Rattle.spv_capabilities.specs.Capable.{Has, HasOneOf, IsCovered}
use Rattle.spv_capabilities.specs.Entry.{IsNamed, imported_by}

-- The entry of the opcode is covered, if there is one. [3.31]
abbrev pub IsCoveredEntry : Table → List PlainInst → ℕ → Type 0
IsCoveredEntry G is opcode = IfSome (entry_of G opcode) (λ e. IsCovered G is e.capabilities)

-- A kind is another than the one named Capability. [3.31]
abbrev pub IsOtherKind : Table → ℕ → Type 0
IsOtherKind G k = number_named G (codes "Capability") ≢ Some k

-- of each of these lists one capability is declared or implied [3.31]
abbrev pub HasNeeded : Table → List PlainInst → List (List ℕ) → Type 0
HasNeeded G is needs = AllByRecursion (HasOneOf G is) needs

-- A decoration says that the function is linked in. [3.20]
abbrev pub IsImported : Table → List PlainInst → ℕ → Type 0
IsImported G is f = IsNamed (imported_by (number_named G (codes "LinkageType"))) is f

-- E1: there is an OpEntryPoint, or the module has Linkage (5). [2.16.1]
abbrev pub HasEntry : Table → List PlainInst → Type 0
HasEntry G is = ((n : ℕ) × HasOpcode is n opcode.ENTRY_POINT) ⊎ Has G is 5
