use Rattle.std.proofs.Common.{◌↔◌, drop}
use Rattle.std.specs.List.{AllByRecursion}
use Rattle.spv_module.specs.Module.{plain_operands}
use Rattle.spv_type_kinds.specs.Operands.{ids_in}
use Rattle.spv_conditions.specs.Variable.{MayInitialize}
use Rattle.spv_conditions.proofs.variable.all_initialize.Given as goal

abbrev pub invariant-loop-operand : goal.invariant-loop-operand
invariant-loop-operand l =
    AllByRecursion (MayInitialize l.definitions) (ids_in (plain_operands (drop l.operand-index l.operands)))
    ↔ AllByRecursion (MayInitialize l.definitions) (ids_in (plain_operands l.operands))
