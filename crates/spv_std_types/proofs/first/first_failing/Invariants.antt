use Rattle.std.proofs.Common.{take}
use Rattle.std.specs.List.{AllByRecursion}
use Rattle.spv_module.specs.Module.{plain_operands}
use Rattle.spv_std_types.specs.Condition.{Holds}
use Rattle.spv_std_types.proofs.first.first_failing.Given as goal

abbrev pub invariant-loop-k : goal.invariant-loop-k
invariant-loop-k l = AllByRecursion (Holds l.definitions l.r (plain_operands l.operands)) (take l.k l.conditions)
