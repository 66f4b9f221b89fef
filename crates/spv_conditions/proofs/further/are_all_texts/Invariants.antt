use Rattle.std.proofs.Common.{◌↔◌, drop}
use Rattle.std.specs.List.{AllByRecursion}
use Rattle.spv_module.specs.Module.{plain_operands}
use Rattle.spv_conditions.specs.Further.{IsText}
use Rattle.spv_conditions.proofs.further.are_all_texts.Given as goal

abbrev pub invariant-loop-operand : goal.invariant-loop-operand
invariant-loop-operand l =
    AllByRecursion IsText (plain_operands (drop l.operand-index l.operands))
    ↔ AllByRecursion IsText (plain_operands l.operands)
