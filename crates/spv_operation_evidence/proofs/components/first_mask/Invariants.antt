use Rattle.std.proofs.Common.{◌≡◌, drop}
use Rattle.spv_module.specs.Module.{plain_operands}
use Rattle.spv_operation_evidence.specs.Beside.{first_mask}
use Rattle.spv_operation_evidence.proofs.components.first_mask.Given as goal

abbrev pub invariant-loop-operand : goal.invariant-loop-operand
invariant-loop-operand l = record {
  place : l.number ≡ l.operand-index;
  left : first_mask 0 (plain_operands l.operands) ≡ first_mask l.number
      (plain_operands (drop l.operand-index l.operands));
}
