use Rattle.spv_module.specs.Module.{plain_operands}
use Rattle.spv_interfaces.proofs.Interfaces.{AreOnce, AreSeen}
use Rattle.spv_interfaces.proofs.entries.has_twice_of_many.Given as goal

abbrev pub invariant-loop-operand : goal.invariant-loop-operand
invariant-loop-operand l = record {
  seen : AreSeen (plain_operands l.interface) l.operand-index l.seen;
  once : AreOnce (plain_operands l.interface) l.operand-index;
}
