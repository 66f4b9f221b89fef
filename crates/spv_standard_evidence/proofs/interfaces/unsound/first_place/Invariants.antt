use Rattle.spv_module.specs.Module.{plain_operands}
use Rattle.spv_standard_evidence.specs.inner.Interfaces.{IsBefore}
use Rattle.spv_standard_evidence.proofs.interfaces.unsound.first_place.Given as goal

abbrev pub invariant-loop-at : goal.invariant-loop-at
invariant-loop-at l = ¬ (IsBefore (plain_operands l.interface) l.at l.x)
