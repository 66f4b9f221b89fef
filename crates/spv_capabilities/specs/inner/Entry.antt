-- How a function is named, and E2 at an OpFunction, by names of their own. (For the code alone.)
use Rattle.std.specs.Prelude.{◌↔◌, ℕ, List}
use Rattle.spv_table.specs.Table.{Table}
use Rattle.spv_module.specs.Operand.{PlainInst}
use Rattle.spv_layout.specs.Place.{IsDefinition}
use Rattle.spv_capabilities.specs.Entry.{IsNamed, called_by, entered_by}
use Rattle.spv_capabilities.specs.Asked.{IsImported}

-- A function is called by some OpFunctionCall; it is that of some OpEntryPoint; some OpDecorate imports it. [3.49.5]
abbrev pub IsCalled : List PlainInst → ℕ → Type 0
IsCalled is f = IsNamed called_by is f

-- An OpEntryPoint names the function. [3.49.5]
abbrev pub IsEntered : List PlainInst → ℕ → Type 0
IsEntered is f = IsNamed entered_by is f

-- E2 at an OpFunction: it is imported if it is a declaration, and only then. [2.4, 3.17]
abbrev pub IsSoundLinkage : Table → List PlainInst → ℕ → Type 0
IsSoundLinkage G is f = IsImported G is f ↔ (¬ (IsDefinition is f))
