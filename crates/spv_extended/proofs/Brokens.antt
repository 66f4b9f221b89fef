-- What Y9 says where it is broken.
use Rattle.std.proofs.Common.{◌≡◌, ℕ, List, IsTrue, refl}
use Rattle.spv_module.specs.Operand.{PlainInst}
use Rattle.spv_module.specs.declared.fault.Rule.{Rule}
use Rattle.spv_module.specs.declared.fault.Rule.TheVariants.{Y9}
use Rattle.spv_extended.specs.declared.reach.Reach.{Reach}
use Rattle.spv_extended.specs.Broken.{Broken, miscalled}
use Rattle.spv_extended.specs.Miscalled.{IsMiscalled}
use Rattle.spv_extended.specs.Reach.{opens}

pub of_call : (reach : Reach) (is : List PlainInst) (r : Rule) (n : ℕ) → Broken reach is r n → IsMiscalled is n
of_call reach is _ _ (miscalled n e m) = m

pub of_rule : (reach : Reach) (is : List PlainInst) (r : Rule) (n : ℕ) → Broken reach is r n → r ≡ Y9
of_rule reach is _ _ (miscalled n e m) = refl

pub of_reach : (reach : Reach) (is : List PlainInst) (r : Rule) (n : ℕ) → Broken reach is r n
    → IsTrue (opens reach)
of_reach reach is _ _ (miscalled n e m) = e

-- who looks as far at extended instructions finds the same
pub moved : (reach more : Reach) (is : List PlainInst) (r : Rule) (n : ℕ) → IsTrue (opens more) → Broken reach is r n
    → Broken more is r n
moved reach more is _ _ o (miscalled n e m) = miscalled n o m
