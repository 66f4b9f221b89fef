use Rattle.std.proofs.Common.{◌≡◌, drop}
use Rattle.spv_module.specs.Module.{plain_operands}
use Rattle.spv_conditions.specs.Path.{stop_at}
use Rattle.spv_conditions.proofs.path.stop_at.Given as goal

abbrev pub invariant-loop-operand : goal.invariant-loop-operand
invariant-loop-operand l = record {
  place : l.number ≡ l.operand-index;
  left : stop_at l.definitions 0 (plain_operands l.operands) l.t ≡ stop_at l.definitions l.number
      (plain_operands (drop l.operand-index l.operands)) l.at;
}
