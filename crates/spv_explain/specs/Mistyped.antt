-- Evidence for Y10: what shows that a call of OpenCL.std has not the types and numbers that are asked. [own]
use Rattle.std.specs.Prelude.{ℕ, List}
use Rattle.spv_module.specs.Operand.{PlainInst}
use Rattle.spv_module.specs.declared.fault.Rule.{Rule}
use Rattle.spv_module.specs.declared.fault.Rule.TheVariants.{Y10}
use Rattle.spv_evidence.specs.declared.evidence.Evidence.{Evidence}
use Rattle.spv_evidence.specs.declared.evidence.Evidence.TheVariants.{Operand}
use Rattle.spv_std_types.specs.declared.condition.Condition.{Condition}
use Rattle.spv_std_types.specs.Condition.{operand_of}
use Rattle.spv_std_types.specs.Mistyped.{IsMistypedBy}

-- The evidence shows that the rule is broken at the instruction of that number: it is the operand of the first
-- condition that this breaks. [own]
pub data IsEvidence (is : List PlainInst) : Rule → ℕ → Evidence → Type 0 where
  mistyped : (n : ℕ) (a : Condition) → IsMistypedBy is n a → IsEvidence is Y10 n (Operand (operand_of a))
