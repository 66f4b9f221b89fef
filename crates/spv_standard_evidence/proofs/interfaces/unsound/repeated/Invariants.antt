use Rattle.spv_module.specs.Module.{plain_operands}
use Rattle.spv_interfaces.proofs.Interfaces.{AreOnce, AreSeen}
use Rattle.spv_standard_evidence.proofs.interfaces.unsound.repeated.Given as goal

abbrev pub invariant-loop-at : goal.invariant-loop-at
invariant-loop-at l = record {
  seen : AreSeen (plain_operands l.interface) l.at l.seen;
  once : AreOnce (plain_operands l.interface) l.at;
}
