use Rattle.std.proofs.Common.{◌≡◌, drop}
use Rattle.std.specs.Prelude.{is_some}
use Rattle.spv_module.specs.Module.{plain_operands}
use Rattle.spv_module.specs.Operand.{type_in}
use Rattle.spv_flow.proofs.walks.code.has_type.Given as goal

abbrev pub invariant-loop-operand : goal.invariant-loop-operand
invariant-loop-operand l =
    is_some (type_in (plain_operands l.operands)) ≡ is_some (type_in (plain_operands (drop l.operand-index l.operands)))
