use Rattle.spv_module.specs.Module.{plain_operands}
use Rattle.spv_interfaces.specs.inner.Entries.{NamesBefore}
use Rattle.spv_interfaces.specs.inner.Marks.{Adds}
use Rattle.spv_interfaces.proofs.named.name_all.Given as goal

abbrev pub invariant-loop-operand : goal.invariant-loop-operand
invariant-loop-operand l = Adds l.bits (NamesBefore l.definitions (plain_operands l.interface) l.operand-index)
    l.fn.named.items l.named.items
