use Rattle.std.proofs.Common.{ℕ, List}
use Rattle.spv_module.specs.Operand.{PlainInst}
use Rattle.spv_module.specs.Module.{plain_operands}
use Rattle.spv_module.specs.declared.fault.Rule.TheVariants.{D1}
use Rattle.spv_ids.specs.inner.Uses.{AreSeen}
use Rattle.spv_ids.specs.inner.Faulty.{HasBadUse}
use Rattle.spv_ids.proofs.survey.Survey.has_out_of_range.Given as goal

abbrev pub invariant-loop-operand : goal.invariant-loop-operand
invariant-loop-operand l = (is : List PlainInst) (n : ℕ) → AreSeen is n (plain_operands l.operands)
    → ¬ (HasBadUse l.self.bound is n l.operand-index D1)
