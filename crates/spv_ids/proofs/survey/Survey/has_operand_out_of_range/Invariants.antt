use Rattle.std.proofs.Common.{ℕ, List}
use Rattle.spv_module.specs.Operand.{PlainInst}
use Rattle.spv_module.specs.Module.{plain_operands}
use Rattle.spv_module.specs.declared.fault.Rule.TheVariants.{D1}
use Rattle.spv_ids.specs.inner.Uses.{AreBehind}
use Rattle.spv_ids.specs.inner.Faulty.{HasBadOperand}
use Rattle.spv_ids.proofs.survey.Survey.has_operand_out_of_range.Given as goal

abbrev pub invariant-loop-operand : goal.invariant-loop-operand
invariant-loop-operand l = (is : List PlainInst) (n : ℕ) → AreBehind is n (plain_operands l.operands)
    → ¬ (HasBadOperand l.self.bound is n l.operand-index D1)
