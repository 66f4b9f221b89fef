use Rattle.std.proofs.Common.{◌<◌}
use Rattle.std.specs.Prelude.{All}
use Rattle.spv_table.specs.Table.{Table}
use Rattle.spv_graphs.specs.declared.queries.Query.{Query}
use Rattle.spv_flow.specs.walks.inner.Code.{insts_of, IsCode}
use Rattle.spv_flow_evidence.specs.walks.inner.Asked.{AreAsked}
use Rattle.spv_flow_evidence.proofs.walks.queries.queries_of.Given as goal

abbrev pub invariant-loop-n : goal.invariant-loop-n
invariant-loop-n l = record {
  steps : All (λ (a : Query). a.step < 4294967295) l.queries.items;
  asked : (G : Table) → IsCode G l.code
      → AreAsked G (insts_of l.code) l.blocks.starts.now l.taking l.block l.at l.n l.queries.items;
}
