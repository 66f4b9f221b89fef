use Rattle.std.proofs.Common.{◌≡◌, drop}
use Rattle.spv_module.specs.Module.{plain_operands}
use Rattle.spv_module.specs.Operand.{type_in}
use Rattle.spv_type_forms.proofs.definitions.type_among.Given as goal

abbrev pub invariant-loop-operand : goal.invariant-loop-operand
invariant-loop-operand l =
    type_in (plain_operands l.operands) ≡ type_in (plain_operands (drop l.operand-index l.operands))
