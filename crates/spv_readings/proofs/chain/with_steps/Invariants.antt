use Rattle.std.proofs.Common.{◌≡◌, ◌++◌, drop}
use Rattle.spv_module.specs.Module.{plain_operands}
use Rattle.spv_type_kinds.specs.Operands.{ids_in}
use Rattle.spv_readings.specs.Chain.{steps_from}
use Rattle.spv_readings.proofs.chain.with_steps.Given as goal

abbrev pub invariant-loop-operand : goal.invariant-loop-operand
invariant-loop-operand l =
    l.types.items ++ steps_from l.definitions
    (ids_in (plain_operands (drop l.operand-index l.indexes))) l.at ≡ l.fn.begun.items
    ++ steps_from l.definitions (ids_in (plain_operands l.indexes)) l.t
