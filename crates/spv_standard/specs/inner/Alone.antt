-- The rules that single instructions break. (For the code alone.)
use Rattle.std.specs.Prelude.{◌≡◌, ℕ, List}
use Rattle.spv_table.specs.Table.{Table}
use Rattle.spv_module.specs.Operand.{PlainInst}
use Rattle.spv_module.specs.declared.fault.Rule.{Rule}
use Rattle.spv_kernel_operands.specs.Broken as operands
use Rattle.spv_versions.specs.Broken as versions
use Rattle.spv_limits.specs.Broken as limits
use Rattle.spv_standard.specs.inner.First.{Either}

-- O14 to O20 and O23, O21, or O22
abbrev pub Alone : Table → ℕ → List PlainInst → Rule → ℕ → Type 0
Alone G minor is = Either (Either (operands.Broken G is) (versions.Broken G minor is)) (limits.Broken is)

-- a rule at the instruction of a number
abbrev pub At : ℕ → (Rule → ℕ → Type 0) → Rule → ℕ → Type 0
At n P r m = (m ≡ n) × P r n
