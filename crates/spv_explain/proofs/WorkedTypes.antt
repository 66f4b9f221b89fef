-- A call of OpenCL.std whose operand has not the type of its result, asked and not.
use Rattle.std.proofs.Common.{◌≡◌, ℕ, List, true, false, ap, refl, sym, arith}
use Rattle.spv_table.specs.Table.{Table}
use Rattle.spv_module.specs.declared.fault.Rule.{Rule}
use Rattle.spv_module.specs.declared.fault.Rule.TheVariants.{Y10}
use Rattle.spv_extended.specs.declared.reach.Reach.TheVariants.{Extended, OpenCl}
use Rattle.spv_evidence.specs.declared.evidence.Evidence.{Evidence}
use Rattle.spv_evidence.specs.declared.evidence.Evidence.TheVariants.{Operand}
use Rattle.spv_std_types.specs.declared.condition.Condition.{Condition}
use Rattle.spv_std_types.specs.Condition.{operand_of}
use Rattle.spv_std_types.specs.Example.{unlike}
use Rattle.spv_std_types.proofs.Telling.{one_told}
use Rattle.spv_std_types.proofs.Worked.{unlike_mistyped}
use Rattle.spv_explain.specs.Evidence.{IsEvidence}
use Rattle.spv_explain.specs.Mistyped as mistyped
use Rattle.spv_explain.proofs.Sufficing.{of_std_types_alone}

pub operand_shown : (G : Table) (minor bound : ℕ) → IsEvidence G (OpenCl minor) bound unlike Y10 22 (Operand 4)
operand_shown G minor bound =
    IsEvidence.of_std_types Y10 22 _ refl (mistyped.IsEvidence.mistyped 22 _ unlike_mistyped)

at_operand : (r : Rule) (n : ℕ) (e : Evidence) → mistyped.IsEvidence unlike r n e → n ≡ 22 → e ≡ Operand 0 → ⊥
at_operand _ _ _ (mistyped.IsEvidence.mistyped n a m) k same =
    let one : operand_of a ≡ 4 = ap operand_of (one_told unlike 22 a _ (rw k at m) unlike_mistyped) in
    let zero : operand_of a ≡ 0 = cc in
    omega (arith, one, zero)

pub result_not_shown : (G : Table) (minor bound : ℕ)
    → ¬ (IsEvidence G (OpenCl minor) bound unlike Y10 22 (Operand 0))
result_not_shown G minor bound h =
    at_operand Y10 22 _ (of_std_types_alone G (OpenCl minor) bound unlike Y10 22 _ h refl).shows refl refl

pub by_extended_not_shown : (G : Table) (bound : ℕ) (e : Evidence) → ¬ (IsEvidence G Extended bound unlike Y10 22 e)
by_extended_not_shown G bound e h =
    let on : false ≡ true = (of_std_types_alone G Extended bound unlike Y10 22 e h refl).on in
    absurd cc
