use Rattle.std.proofs.Common.{◌↔◌, drop}
use Rattle.std.specs.List.{AllByRecursion}
use Rattle.spv_conditions.specs.Block.{IsLocalSize}
use Rattle.spv_conditions.proofs.block.are_local_sizes.Given as goal

abbrev pub invariant-loop-value : goal.invariant-loop-value
invariant-loop-value l =
    AllByRecursion (IsLocalSize l.definitions) (drop l.value-index l.types)
    ↔ AllByRecursion (IsLocalSize l.definitions) l.types
