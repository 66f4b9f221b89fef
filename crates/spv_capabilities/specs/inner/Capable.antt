-- The capabilities that a module declares, and C1, by names of their own. (For the code alone.)
use Rattle.std.specs.Prelude.{ℕ, List, Option, None, nat_eq, if◌then◌else◌}
use Rattle.spv_table.specs.Table.{Table}
use Rattle.spv_module.specs.Operand.{PlainInst}
use Rattle.spv_module.specs.declared.opcode.TheConstants as opcode
use Rattle.spv_capabilities.specs.Capable.{first_value, Has}

-- the capability that an OpCapability declares [3.49.5]
abbrev pub declared_by : PlainInst → Option ℕ
declared_by i = if nat_eq i.opcode opcode.CAPABILITY then first_value i.operands else None

-- C1: it has Kernel (6), and it has not Shader (1). [2.16.1]
abbrev pub IsKernel : Table → List PlainInst → Type 0
IsKernel G is = Has G is 6 × (¬ (Has G is 1))
