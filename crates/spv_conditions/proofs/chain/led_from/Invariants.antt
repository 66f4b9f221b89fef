use Rattle.std.proofs.Common.{◌≡◌, drop}
use Rattle.spv_module.specs.Module.{plain_operands}
use Rattle.spv_type_kinds.specs.Operands.{ids_in}
use Rattle.spv_conditions.specs.Chain.{led_from}
use Rattle.spv_conditions.proofs.chain.led_from.Given as goal

abbrev pub invariant-loop-operand : goal.invariant-loop-operand
invariant-loop-operand l =
    led_from l.definitions (ids_in (plain_operands l.indexes)) l.t ≡ led_from l.definitions
    (ids_in (plain_operands (drop l.operand-index l.indexes))) l.at
