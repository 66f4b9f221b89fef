use Rattle.spv_table.specs.Table.{Table}
use Rattle.spv_flow.specs.branches.inner.Code.{insts_of, IsCode}
use Rattle.spv_flow.proofs.lemmas.branches.Taking.{IsTaking}
use Rattle.spv_flow.proofs.branches.faults.take_parents.Given as goal

abbrev pub invariant-loop-n : goal.invariant-loop-n
invariant-loop-n l = (G : Table) → IsCode G l.code → IsTaking G (insts_of l.code) l.at l.fn.marks l.marks l.n
