use Rattle.std.proofs.Common.{◌↔◌, drop}
use Rattle.std.specs.List.{AllByRecursion}
use Rattle.spv_type_forms.specs.Types.{PointsTo}
use Rattle.spv_conditions.proofs.rest.points_to_all.Given as goal

abbrev pub invariant-loop-value : goal.invariant-loop-value
invariant-loop-value l =
    AllByRecursion (PointsTo l.definitions l.t) (drop l.value-index l.types)
    ↔ AllByRecursion (PointsTo l.definitions l.t) l.types
