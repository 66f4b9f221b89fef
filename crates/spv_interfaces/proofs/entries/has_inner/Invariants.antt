use Rattle.spv_module.specs.Module.{plain_operands}
use Rattle.spv_interfaces.proofs.Interfaces.{AreOutside}
use Rattle.spv_interfaces.proofs.entries.has_inner.Given as goal

abbrev pub invariant-loop-operand : goal.invariant-loop-operand
invariant-loop-operand l = AreOutside l.definitions (plain_operands l.interface) l.operand-index
