use Rattle.std.proofs.Common.{◌≡◌, length}
use Rattle.spv_table.specs.Table.{Table}
use Rattle.spv_flow.specs.branches.inner.Code.{insts_of, IsCode}
use Rattle.spv_flow.specs.branches.inner.Edges.{IsEdges}
use Rattle.spv_flow.specs.branches.inner.Graph.{AreGathered}
use Rattle.spv_flow.proofs.branches.gather.gather.Given as goal

abbrev pub invariant-loop-at : goal.invariant-loop-at
invariant-loop-at l = record {
  edges : IsEdges l.edges;
  count : length l.edges.heads.items ≡ length l.code.insts.now;
  gathered : (G : Table) → IsCode G l.code → AreGathered G (insts_of l.code) l.edges l.at;
}
