-- What a contract sees of a checked module.
use Rattle.std.specs.Prelude.{ℕ, List}
use Rattle.spv_module.specs.Operand.{PlainInst}

-- the bound of its ids and its instructions [own]
pub record Program : Type 0 where
  pub bound : ℕ
  pub insts : List PlainInst
