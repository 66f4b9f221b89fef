use Rattle.std.proofs.Common.{◌↔◌, drop}
use Rattle.std.specs.List.{AllByRecursion}
use Rattle.spv_module.specs.Module.{plain_operands}
use Rattle.spv_type_kinds.specs.Operands.{ids_in}
use Rattle.spv_ops.specs.inner.Enqueue.{IsOfLocalSize}
use Rattle.spv_ops.proofs.enqueue.are_local_sizes.Given as goal

abbrev pub invariant-loop-operand : goal.invariant-loop-operand
invariant-loop-operand l =
    AllByRecursion (IsOfLocalSize l.definitions)
    (drop l.left (ids_in (plain_operands (drop l.operand-index l.operands))))
    ↔ AllByRecursion (IsOfLocalSize l.definitions) (drop l.before (ids_in (plain_operands l.operands)))
