-- What Y10 says where it is broken.
use Rattle.std.proofs.Common.{◌≡◌, ℕ, List, IsTrue, refl}
use Rattle.spv_module.specs.Operand.{PlainInst}
use Rattle.spv_module.specs.declared.fault.Rule.{Rule}
use Rattle.spv_module.specs.declared.fault.Rule.TheVariants.{Y10}
use Rattle.spv_extended.specs.declared.reach.Reach.{Reach}
use Rattle.spv_std_types.specs.Broken.{Broken, mistyped, asks_types}
use Rattle.spv_std_types.specs.Mistyped.{IsMistyped}

pub of_call : (reach : Reach) (is : List PlainInst) (r : Rule) (n : ℕ) → Broken reach is r n → IsMistyped is n
of_call reach is _ _ (mistyped n e m) = m

pub of_rule : (reach : Reach) (is : List PlainInst) (r : Rule) (n : ℕ) → Broken reach is r n → r ≡ Y10
of_rule reach is _ _ (mistyped n e m) = refl

pub of_reach : (reach : Reach) (is : List PlainInst) (r : Rule) (n : ℕ) → Broken reach is r n
    → IsTrue (asks_types reach)
of_reach reach is _ _ (mistyped n e m) = e
