use Rattle.std.proofs.Common.{◌≡◌, drop}
use Rattle.spv_module.specs.Module.{plain_operands}
use Rattle.spv_conditions.specs.Group.{enumerant_in}
use Rattle.spv_conditions.proofs.group.enumerant.Given as goal

abbrev pub invariant-loop-operand : goal.invariant-loop-operand
invariant-loop-operand l =
    enumerant_in (plain_operands l.operands) ≡ enumerant_in (plain_operands (drop l.operand-index l.operands))
