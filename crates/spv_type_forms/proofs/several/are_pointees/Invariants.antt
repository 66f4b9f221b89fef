use Rattle.std.proofs.Common.{◌≡◌, drop}
use Rattle.std.specs.List.{list_all}
use Rattle.spv_module.specs.Module.{plain_operands}
use Rattle.spv_type_kinds.specs.Operands.{ids_in}
use Rattle.spv_type_forms.specs.inner.Tests.{has_pointee}
use Rattle.spv_type_forms.proofs.several.are_pointees.Given as goal

abbrev pub invariant-loop-operand : goal.invariant-loop-operand
invariant-loop-operand l =
    list_all (has_pointee l.definitions l.r) (ids_in (plain_operands l.operands)) ≡ list_all
    (has_pointee l.definitions l.r) (ids_in (plain_operands (drop l.operand-index l.operands)))
