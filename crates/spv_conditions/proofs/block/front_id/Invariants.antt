use Rattle.std.proofs.Common.{◌≡◌, drop}
use Rattle.std.specs.Prelude.{slice_get}
use Rattle.spv_module.specs.Module.{plain_operands}
use Rattle.spv_type_kinds.specs.Operands.{ids_in}
use Rattle.spv_conditions.proofs.block.front_id.Given as goal

abbrev pub invariant-loop-operand : goal.invariant-loop-operand
invariant-loop-operand l =
    slice_get (ids_in (plain_operands l.operands)) l.k
    ≡ slice_get (ids_in (plain_operands (drop l.operand-index l.operands))) l.left
