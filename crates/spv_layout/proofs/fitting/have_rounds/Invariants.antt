use Rattle.std.proofs.Common.{◌≡◌, ◌≤◌, [], map, drop, length}
use Rattle.spv_module.specs.Module.{plain_operand}
use Rattle.spv_layout.specs.inner.Test.{are_rounds}
use Rattle.spv_layout.proofs.fitting.have_rounds.Given as goal

abbrev pub invariant-loop-operand : goal.invariant-loop-operand
invariant-loop-operand l = record {
  within : l.at ≤ length l.forms;
  left : are_rounds l.kinds l.forms (drop l.at l.forms) (map plain_operand (drop l.operand-index l.operands)) ≡ are_rounds l.kinds l.forms [] (map plain_operand l.operands);
}
