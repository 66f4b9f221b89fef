use Rattle.std.proofs.Common.{◌≡◌, drop}
use Rattle.spv_module.specs.Module.{plain_operands}
use Rattle.spv_type_kinds.specs.Operands.{ids_in}
use Rattle.spv_ops.specs.inner.Tests.{left_of_all}
use Rattle.spv_ops.proofs.construct.left_after_all.Given as goal

abbrev pub invariant-loop-operand : goal.invariant-loop-operand
invariant-loop-operand l =
    left_of_all l.definitions l.c l.n (ids_in (plain_operands l.operands)) ≡ left_of_all l.definitions l.c l.left
    (ids_in (plain_operands (drop l.operand-index l.operands)))
