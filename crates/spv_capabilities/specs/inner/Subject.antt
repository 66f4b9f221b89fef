-- What a survey is of. (For the code alone.)
use Rattle.std.specs.Prelude.{List}
use Rattle.spv_table.specs.Table.{Table}
use Rattle.spv_module.specs.Operand.{PlainInst}

-- a grammar table, and a module's instructions
pub record Subject : Type 0 where
  pub table : Table
  pub insts : List PlainInst
