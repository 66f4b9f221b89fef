-- Where O4 is broken. [3.49.5; own]
use Rattle.std.specs.Prelude.{ℕ, List}
use Rattle.spv_table.specs.Table.{Table}
use Rattle.spv_module.specs.Operand.{PlainInst}
use Rattle.spv_module.specs.declared.fault.Rule.{Rule}
use Rattle.spv_module.specs.declared.fault.Rule.TheVariants.{O4}
use Rattle.spv_interfaces.specs.Interface.{IsMisfaced}

-- In a module of version 1.minor the rule is broken at the instruction of that number. [own]
pub data Broken (G : Table) (minor : ℕ) (is : List PlainInst) : Rule → ℕ → Type 0 where
  misfaced : (n : ℕ) → IsMisfaced G minor is n → Broken G minor is O4 n
