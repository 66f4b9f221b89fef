use Rattle.spv_module.specs.Module.{plain_operands}
use Rattle.spv_form_evidence.specs.capabilities.inner.Operands.{AreCoveredBefore}
use Rattle.spv_form_evidence.proofs.capabilities.needs.uncovered_operand.Given as goal

abbrev pub invariant-loop-number : goal.invariant-loop-number
invariant-loop-number l = AreCoveredBefore l.survey.table l.survey.insts (plain_operands l.operands) l.number
