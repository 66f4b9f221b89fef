use Rattle.std.proofs.Common.{◌-◌, length}
use Rattle.spv_table.specs.Table.{Table}
use Rattle.spv_flow.specs.branches.inner.Code.{IsCode}
use Rattle.spv_flow.proofs.lemmas.branches.Looking.{IsLooking}
use Rattle.spv_flow.proofs.branches.faults.targets_by_operand.Given as goal

abbrev pub invariant-loop-n : goal.invariant-loop-n
invariant-loop-n l = (G : Table) → IsCode G l.code → IsLooking G l.code l.at l.enters l.n

abbrev pub decreases-loop-n : goal.decreases-loop-n
decreases-loop-n l = length l.operands - l.n
