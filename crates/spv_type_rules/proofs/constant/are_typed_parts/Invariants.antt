use Rattle.std.proofs.Common.{◌≡◌, drop}
use Rattle.spv_module.specs.Module.{plain_operands}
use Rattle.spv_type_kinds.specs.Operands.{ids_in}
use Rattle.spv_type_rules.specs.inner.Found.{are_typed_parts}
use Rattle.spv_type_rules.proofs.constant.are_typed_parts.Given as goal

abbrev pub invariant-loop-operand : goal.invariant-loop-operand
invariant-loop-operand l =
    (l.k ≡ l.operand-index) × (are_typed_parts l.definitions l.spec l.r 0
    (ids_in (plain_operands l.operands)) ≡ are_typed_parts l.definitions l.spec l.r l.k
    (ids_in (plain_operands (drop l.operand-index l.operands))))
