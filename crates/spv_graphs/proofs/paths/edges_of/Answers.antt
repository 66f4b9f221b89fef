use Rattle.std.proofs.Common.{◌+◌, List, sym, subst}
use Rattle.spv_graphs.specs.declared.edge.Edge.{Edge}
use Rattle.spv_graphs.specs.inner.Edges.{AreEdges}
use Rattle.spv_graphs.proofs.Edged.{edges_more}
use Rattle.spv_graphs.proofs.paths.edges_of.Goals as goal

pub loop-block-preserved : goal.loop-block-preserved
loop-block-preserved c =
    let block = c.loop-block.block in
    subst (λ (xs : List Edge). AreEdges c.args.graph.now (block + 1) xs) (sym c.in_ok-add_edges.ensures)
    (edges_more c.args.graph.now block c.loop-block.edges.items c.loop-block.invariant)
