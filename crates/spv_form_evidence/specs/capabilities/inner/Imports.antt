-- Which instructions import a function. (For the code alone.)
use Rattle.std.specs.Prelude.{◌≡◌, ◌<◌, ℕ, List, Option, Some, slice_get}
use Rattle.spv_table.specs.Table.{Table}
use Rattle.spv_module.specs.Operand.{PlainInst}
use Rattle.spv_ids.specs.Definition.{IsDefinedAt}
use Rattle.spv_capabilities.specs.Entry.{imported_by}
use Rattle.spv_capabilities.specs.Asked.{IsImported}

-- the instruction i imports the id that instruction n defines
abbrev pub Imports : List PlainInst → Option ℕ → PlainInst → ℕ → Type 0
Imports is l i n = (x : ℕ) × (imported_by l i ≡ Some x) × IsDefinedAt is x n

-- no instruction before number `to` does
abbrev pub AreNoImportsBefore : List PlainInst → Option ℕ → ℕ → ℕ → Type 0
AreNoImportsBefore is l n to = (k : ℕ) (i : PlainInst) → k < to → slice_get is k ≡ Some i → ¬ (Imports is l i n)

-- instruction m imports what instruction n defines
abbrev pub IsImportAt : Table → List PlainInst → ℕ → ℕ → Type 0
IsImportAt G is n m = (a : IsImported G is n) × (a.place ≡ m)
