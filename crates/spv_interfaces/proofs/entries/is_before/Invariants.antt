use Rattle.spv_module.specs.Module.{plain_operands}
use Rattle.spv_interfaces.proofs.Interfaces.{IsBefore}
use Rattle.spv_interfaces.proofs.entries.is_before.Given as goal

abbrev pub invariant-loop-at : goal.invariant-loop-at
invariant-loop-at l = ¬ (IsBefore (plain_operands l.interface) l.at l.x)
