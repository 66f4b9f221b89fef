use Rattle.std.proofs.Common.{◌≡◌, drop}
use Rattle.spv_module.specs.Module.{plain_operands}
use Rattle.spv_type_kinds.specs.Operands.{ids_in}
use Rattle.spv_type_forms.specs.inner.Tests.{are_parts_from}
use Rattle.spv_type_forms.proofs.several.are_parts.Given as goal

abbrev pub invariant-loop-operand : goal.invariant-loop-operand
invariant-loop-operand l =
    (l.k ≡ l.operand-index) × (are_parts_from l.definitions l.t 0
    (ids_in (plain_operands l.operands)) ≡ are_parts_from l.definitions l.t l.k
    (ids_in (plain_operands (drop l.operand-index l.operands))))
