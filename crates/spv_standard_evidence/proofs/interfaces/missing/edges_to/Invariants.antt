use Rattle.std.proofs.Common.{map}
use Rattle.spv_table.specs.Table.{Table}
use Rattle.spv_declarations.specs.inner.Sets.{IsIn}
use Rattle.spv_interfaces.specs.inner.Uses.{Fit}
use Rattle.spv_flow_evidence.specs.calls.inner.Edges.{edge_of}
use Rattle.spv_standard_evidence.specs.inner.Interfaces.{AddsEdges, MissesBefore}
use Rattle.spv_standard_evidence.proofs.interfaces.missing.edges_to.Given as goal

abbrev pub invariant-loop-number : goal.invariant-loop-number
invariant-loop-number l = (G : Table) → Fit G l.definitions
    → AddsEdges (MissesBefore G l.minor l.definitions (IsIn l.named) l.number) l.total (map edge_of l.calls)
    l.edges.items
