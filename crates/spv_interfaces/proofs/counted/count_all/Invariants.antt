use Rattle.spv_module.specs.Module.{plain_operands}
use Rattle.spv_interfaces.specs.inner.Counted.{Counts}
use Rattle.spv_interfaces.specs.inner.Entries.{NamesIn}
use Rattle.spv_interfaces.proofs.counted.count_all.Given as goal

abbrev pub invariant-loop-operand : goal.invariant-loop-operand
invariant-loop-operand l =
    Counts l.k (NamesIn l.definitions (plain_operands l.interface)) l.fn.counts.items l.counts.items
