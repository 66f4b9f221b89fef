use Rattle.std.proofs.Common.{◌↔◌, drop}
use Rattle.std.specs.List.{AllByRecursion}
use Rattle.spv_module.specs.Module.{plain_operands}
use Rattle.spv_type_kinds.specs.Operands.{ids_in}
use Rattle.spv_type_forms.specs.Types.{IsData}
use Rattle.spv_type_rules.proofs.declaration.are_data.Given as goal

abbrev pub invariant-loop-operand : goal.invariant-loop-operand
invariant-loop-operand l =
    AllByRecursion (IsData l.definitions) (ids_in (plain_operands (drop l.operand-index l.operands)))
    ↔ AllByRecursion (IsData l.definitions) (ids_in (plain_operands l.operands))
