use Rattle.spv_graphs.specs.inner.Edges.{AreEdges}
use Rattle.spv_graphs.proofs.paths.edges_of.Given as goal

abbrev pub invariant-loop-block : goal.invariant-loop-block
invariant-loop-block l = AreEdges l.graph l.block l.edges.items
