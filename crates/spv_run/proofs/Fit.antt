-- Lists whose instructions fit their rows, and in which each id has one definition at most.
use Rattle.std.specs.Prelude.{◌≡◌, ℕ, List, Some, slice_get}
use Rattle.spv_table.specs.Table.{Table}
use Rattle.spv_module.specs.Operand.{PlainInst}
use Rattle.spv_layout.specs.Shape.{FitsShape}
use Rattle.spv_run.specs.At.{result_at}

-- Rule P1: each instruction fits its row of the table of shapes.
abbrev pub AllFit : Table → List PlainInst → Type 0
AllFit G is = (n : ℕ) (i : PlainInst) → slice_get is n ≡ Some i → FitsShape G i

-- Rule D2: no two instructions have one result. [2.16.1]
abbrev pub HasOneDefinition : List PlainInst → Type 0
HasOneDefinition is = (m n x : ℕ) → result_at is m ≡ Some x → result_at is n ≡ Some x → m ≡ n
