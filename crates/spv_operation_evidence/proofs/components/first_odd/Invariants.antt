use Rattle.std.proofs.Common.{◌≡◌, drop}
use Rattle.spv_module.specs.Module.{plain_operands}
use Rattle.spv_operation_evidence.specs.Beside.{first_odd}
use Rattle.spv_operation_evidence.proofs.components.first_odd.Given as goal

abbrev pub invariant-loop-operand : goal.invariant-loop-operand
invariant-loop-operand l = record {
  place : l.number ≡ l.operand-index;
  left : first_odd l.n 0 (plain_operands l.operands) ≡ first_odd l.n l.number
      (plain_operands (drop l.operand-index l.operands));
}
