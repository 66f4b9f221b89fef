-- O22. [2.17]
use Rattle.std.specs.Prelude.{ℕ, List}
use Rattle.spv_module.specs.Operand.{PlainInst}
use Rattle.spv_module.specs.declared.fault.Rule.{Rule}
use Rattle.spv_module.specs.declared.fault.Rule.TheVariants.{O22}
use Rattle.spv_limits.specs.Past.{IsPast}

-- O22 is broken at the instruction of that number: it passes a limit. [2.17]
pub data Broken (is : List PlainInst) : Rule → ℕ → Type 0 where
  past : (n : ℕ) → IsPast is n → Broken is O22 n
