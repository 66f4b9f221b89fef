-- O21. [3, 3.49.4]
use Rattle.std.specs.Prelude.{ℕ, List}
use Rattle.spv_table.specs.Table.{Table}
use Rattle.spv_module.specs.Operand.{PlainInst}
use Rattle.spv_module.specs.declared.fault.Rule.{Rule}
use Rattle.spv_module.specs.declared.fault.Rule.TheVariants.{O21}
use Rattle.spv_versions.specs.Missing.{IsLateAt}

-- In a module of version 1.minor O21 is broken at the instruction of that number: it is what that version does not
-- have, or has what it does not. [3]
pub data Broken (G : Table) (minor : ℕ) (is : List PlainInst) : Rule → ℕ → Type 0 where
  late : (n : ℕ) → IsLateAt G minor is n → Broken G minor is O21 n
