use Rattle.spv_module.specs.Module.{plain_operands}
use Rattle.spv_interfaces.proofs.Interfaces.{AreOutside}
use Rattle.spv_standard_evidence.proofs.interfaces.unsound.inner_operand.Given as goal

abbrev pub invariant-loop-at : goal.invariant-loop-at
invariant-loop-at l = AreOutside l.definitions (plain_operands l.interface) l.at
