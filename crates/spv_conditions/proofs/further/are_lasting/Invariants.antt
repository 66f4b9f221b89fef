use Rattle.std.proofs.Common.{◌↔◌, drop}
use Rattle.std.specs.List.{AllByRecursion}
use Rattle.spv_module.specs.Module.{plain_operands}
use Rattle.spv_conditions.specs.Further.{IsLasting}
use Rattle.spv_conditions.proofs.further.are_lasting.Given as goal

abbrev pub invariant-loop-operand : goal.invariant-loop-operand
invariant-loop-operand l =
    AllByRecursion (IsLasting l.definitions) (plain_operands (drop l.operand-index l.operands))
    ↔ AllByRecursion (IsLasting l.definitions) (plain_operands l.operands)
