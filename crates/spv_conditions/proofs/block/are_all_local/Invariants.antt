use Rattle.std.proofs.Common.{◌↔◌, drop}
use Rattle.std.specs.List.{AllByRecursion}
use Rattle.spv_module.specs.Module.{plain_operands}
use Rattle.spv_conditions.specs.Block.{IsLocal}
use Rattle.spv_conditions.proofs.block.are_all_local.Given as goal

abbrev pub invariant-loop-operand : goal.invariant-loop-operand
invariant-loop-operand l =
    AllByRecursion (IsLocal l.definitions) (plain_operands (drop l.operand-index l.operands))
    ↔ AllByRecursion (IsLocal l.definitions) (plain_operands l.operands)
