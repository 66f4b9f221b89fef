use Rattle.spv_table.specs.Table.{Table}
use Rattle.spv_flow.specs.branches.inner.Code.{insts_of, IsCode}
use Rattle.spv_flow_evidence.specs.branches.inner.Known.{AreNames}
use Rattle.spv_flow_evidence.proofs.branches.parents.wrong_pair.Given as goal

abbrev pub invariant-loop-k : goal.invariant-loop-k
invariant-loop-k l = (G : Table) → IsCode G l.code → AreNames G (insts_of l.code) l.at l.marks l.names l.k
