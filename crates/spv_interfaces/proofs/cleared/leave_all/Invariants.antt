use Rattle.spv_module.specs.Module.{plain_operands}
use Rattle.spv_interfaces.specs.inner.Cleared.{Clears}
use Rattle.spv_interfaces.specs.inner.Entries.{NamesBefore}
use Rattle.spv_interfaces.proofs.cleared.leave_all.Given as goal

abbrev pub invariant-loop-operand : goal.invariant-loop-operand
invariant-loop-operand l = Clears (NamesBefore l.definitions (plain_operands l.interface) l.operand-index)
    l.fn.named.items l.named.items
