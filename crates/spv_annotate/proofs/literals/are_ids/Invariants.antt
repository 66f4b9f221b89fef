use Rattle.std.proofs.Common.{◌≡◌, drop}
use Rattle.std.specs.List.{list_all}
use Rattle.spv_module.specs.Module.{plain_operands}
use Rattle.spv_annotate.specs.Called.{is_id}
use Rattle.spv_annotate.proofs.literals.are_ids.Given as goal

abbrev pub invariant-loop-operand : goal.invariant-loop-operand
invariant-loop-operand l =
    list_all is_id (plain_operands (drop l.operand-index l.operands)) ≡ list_all is_id (plain_operands l.operands)
