use Rattle.spv_module.specs.Module.{plain_operands}
use Rattle.spv_interfaces.proofs.Interfaces.{AreSeen}
use Rattle.spv_standard_evidence.proofs.interfaces.missing.ids_in.Given as goal

abbrev pub invariant-loop-at : goal.invariant-loop-at
invariant-loop-at l = AreSeen (plain_operands l.interface) l.at l.named
