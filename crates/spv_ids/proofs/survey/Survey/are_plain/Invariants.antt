use Rattle.std.proofs.Common.{None}
use Rattle.spv_ids.specs.inner.Faulty.{HasBadUse, IsLeast}
use Rattle.spv_ids.specs.inner.Survey.{insts_of}
use Rattle.spv_ids.proofs.survey.Survey.are_plain.Given as goal

abbrev pub invariant-loop-operand : goal.invariant-loop-operand
invariant-loop-operand l = IsLeast (HasBadUse l.self.bound (insts_of l.self) l.inst l.operand-index) None
