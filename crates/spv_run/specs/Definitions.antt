-- Lists of the definitions of functions. (Own.)
use Rattle.std.specs.Prelude.{ℕ, List, Contains}
use Rattle.spv_module.specs.Operand.{PlainInst}
use Rattle.spv_layout.specs.Place.{IsDefinition}

-- The list has the number of the OpFunction of each definition. [own]
abbrev pub AreDefinitions : List PlainInst → List ℕ → Type 0
AreDefinitions is functions = (f : ℕ) → IsDefinition is f → Contains functions f
