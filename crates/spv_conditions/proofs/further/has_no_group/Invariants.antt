use Rattle.std.proofs.Common.{◌↔◌, drop}
use Rattle.std.specs.List.{AllByRecursion}
use Rattle.spv_module.specs.Module.{plain_operands}
use Rattle.spv_conditions.specs.Further.{IsNoGroup}
use Rattle.spv_conditions.specs.Group.{all_ids_in}
use Rattle.spv_conditions.proofs.further.has_no_group.Given as goal

abbrev pub invariant-loop-operand : goal.invariant-loop-operand
invariant-loop-operand l =
    AllByRecursion (IsNoGroup l.definitions) (all_ids_in (plain_operands (drop l.operand-index l.operands)))
    ↔ AllByRecursion (IsNoGroup l.definitions) (all_ids_in (plain_operands l.operands))
