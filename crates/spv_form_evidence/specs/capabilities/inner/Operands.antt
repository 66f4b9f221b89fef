-- The first operands of an instruction. (For the code alone.)
use Rattle.std.specs.Prelude.{◌≡◌, ◌<◌, ℕ, List, Some, slice_get}
use Rattle.spv_table.specs.Table.{Table}
use Rattle.spv_module.specs.Operand.{Plain, PlainInst}
use Rattle.spv_capabilities.specs.Capable.{IsCoveredOperand}

-- those before number `to` are covered
pub record AreCoveredBefore (G : Table) (is : List PlainInst) (os : List Plain) (to : ℕ) : Type 0 where
  pub each : (k : ℕ) (o : Plain) → k < to → slice_get os k ≡ Some o → IsCoveredOperand G is o
