use Rattle.std.proofs.Common.{◌≡◌, ◌+◌, length, drop}
use Rattle.spv_module.specs.Module.{plain_operands}
use Rattle.spv_type_kinds.specs.Operands.{ids_in}
use Rattle.spv_type_kinds.proofs.operands.id_count.Given as goal

abbrev pub invariant-loop-operand : goal.invariant-loop-operand
invariant-loop-operand l =
    (l.count ≡ l.operand-index) × (l.count + length (ids_in (plain_operands (drop l.operand-index l.operands))) ≡ length
    (ids_in (plain_operands l.operands)))
