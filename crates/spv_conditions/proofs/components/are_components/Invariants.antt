use Rattle.std.proofs.Common.{◌↔◌, drop}
use Rattle.std.specs.List.{AllByRecursion}
use Rattle.spv_module.specs.Module.{plain_operands}
use Rattle.spv_type_kinds.specs.Operands.{words_in}
use Rattle.spv_conditions.specs.Rest.{IsComponent}
use Rattle.spv_conditions.proofs.components.are_components.Given as goal

abbrev pub invariant-loop-operand : goal.invariant-loop-operand
invariant-loop-operand l =
    AllByRecursion (IsComponent l.n) (words_in (plain_operands (drop l.operand-index l.operands)))
    ↔ AllByRecursion (IsComponent l.n) (words_in (plain_operands l.operands))
