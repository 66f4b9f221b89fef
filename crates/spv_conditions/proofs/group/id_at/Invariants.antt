use Rattle.std.proofs.Common.{◌≡◌, drop}
use Rattle.std.specs.Prelude.{slice_get}
use Rattle.spv_module.specs.Module.{plain_operands}
use Rattle.spv_conditions.specs.Group.{all_ids_in}
use Rattle.spv_conditions.proofs.group.id_at.Given as goal

abbrev pub invariant-loop-operand : goal.invariant-loop-operand
invariant-loop-operand l =
    slice_get (all_ids_in (plain_operands l.operands)) l.k
    ≡ slice_get (all_ids_in (plain_operands (drop l.operand-index l.operands))) l.left
