use Rattle.std.proofs.Common.{◌≡◌, drop}
use Rattle.spv_module.specs.Module.{plain_operands}
use Rattle.spv_type_kinds.specs.Operands.{ids_in}
use Rattle.spv_type_forms.specs.inner.Walk.{int_choices}
use Rattle.spv_type_forms.proofs.parts.led_by_ints.Given as goal

abbrev pub invariant-loop-operand : goal.invariant-loop-operand
invariant-loop-operand l =
    int_choices l.definitions (ids_in (plain_operands l.indexes)) l.t ≡ int_choices l.definitions
    (ids_in (plain_operands (drop l.operand-index l.indexes))) l.at
