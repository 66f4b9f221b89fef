-- Y9: what extended instructions take. [own]
use Rattle.std.specs.Prelude.{ℕ, List, IsTrue}
use Rattle.spv_module.specs.Operand.{PlainInst}
use Rattle.spv_module.specs.declared.fault.Rule.{Rule}
use Rattle.spv_module.specs.declared.fault.Rule.TheVariants.{Y9}
use Rattle.spv_extended.specs.declared.reach.Reach.{Reach}
use Rattle.spv_extended.specs.Miscalled.{IsMiscalled}
use Rattle.spv_extended.specs.Reach.{opens}

-- Y9 is broken at the instruction of that number: extended instructions are looked at, and it calls what OpenCL.std
-- does not have. [own]
pub data Broken (reach : Reach) (is : List PlainInst) : Rule → ℕ → Type 0 where
  miscalled : (n : ℕ) → IsTrue (opens reach) → IsMiscalled is n → Broken reach is Y9 n
