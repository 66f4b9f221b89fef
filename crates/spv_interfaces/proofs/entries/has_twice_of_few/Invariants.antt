use Rattle.spv_module.specs.Module.{plain_operands}
use Rattle.spv_interfaces.proofs.Interfaces.{AreOnce}
use Rattle.spv_interfaces.proofs.entries.has_twice_of_few.Given as goal

abbrev pub invariant-loop-at : goal.invariant-loop-at
invariant-loop-at l = AreOnce (plain_operands l.interface) l.at
