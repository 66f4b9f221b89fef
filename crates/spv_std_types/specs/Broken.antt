-- Y10: which types the instructions of OpenCL.std take and return. [own]
use Rattle.std.specs.Prelude.{ℕ, List, Bool, true, false, IsTrue}
use Rattle.spv_module.specs.Operand.{PlainInst}
use Rattle.spv_module.specs.declared.fault.Rule.{Rule}
use Rattle.spv_module.specs.declared.fault.Rule.TheVariants.{Y10}
use Rattle.spv_extended.specs.declared.reach.Reach.{Reach}
use Rattle.spv_extended.specs.declared.reach.Reach.TheVariants.{Profile, Extended, OpenCl}
use Rattle.spv_std_types.specs.Mistyped.{IsMistyped}

-- is it asked of a module that is looked at so far? [own]
abbrev pub asks_types : Reach → Bool
asks_types Profile = false
asks_types Extended = false
asks_types (OpenCl minor) = true

-- Y10 is broken at the instruction of that number: it is asked, and the call has not what its line of the table asks.
-- [own]
pub data Broken (reach : Reach) (is : List PlainInst) : Rule → ℕ → Type 0 where
  mistyped : (n : ℕ) → IsTrue (asks_types reach) → IsMistyped is n → Broken reach is Y10 n
