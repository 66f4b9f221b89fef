use Rattle.std.proofs.Common.{◌↔◌, drop}
use Rattle.std.specs.List.{AllByRecursion}
use Rattle.spv_module.specs.Module.{plain_operands}
use Rattle.spv_capabilities.specs.Capable.{IsCoveredOperand}
use Rattle.spv_capabilities.specs.inner.Known.{IsKnown}
use Rattle.spv_capabilities.proofs.memo.Memo.are_covered_operands.Given as goal

abbrev pub invariant-loop-operand : goal.invariant-loop-operand
invariant-loop-operand l = record {
  known : IsKnown l.survey l.self;
  left : AllByRecursion (IsCoveredOperand l.survey.table l.survey.insts)
      (plain_operands (drop l.operand-index l.operands))
      ↔ AllByRecursion (IsCoveredOperand l.survey.table l.survey.insts) (plain_operands l.operands);
}
