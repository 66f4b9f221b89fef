use Rattle.spv_ids.specs.inner.Faulty.{HasBadOperand, IsLeast}
use Rattle.spv_ids.specs.inner.Survey.{insts_of}
use Rattle.spv_ids.proofs.survey.Survey.operands_fault.Given as goal

abbrev pub invariant-loop-operand : goal.invariant-loop-operand
invariant-loop-operand l = IsLeast (HasBadOperand l.self.bound (insts_of l.self) l.inst l.operand-index) l.least
