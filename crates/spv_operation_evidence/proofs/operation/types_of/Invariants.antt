use Rattle.std.proofs.Common.{◌≡◌, take}
use Rattle.spv_readings.specs.Values.{types_in}
use Rattle.spv_operation_evidence.proofs.operation.types_of.Given as goal

abbrev pub invariant-loop-value : goal.invariant-loop-value
invariant-loop-value l = l.types.items ≡ types_in (take l.value-index l.values)
