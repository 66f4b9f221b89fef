use Rattle.std.proofs.Common.{◌≡◌, ◌++◌, map, take}
use Rattle.spv_graphs.specs.Graph.{targets_of}
use Rattle.spv_graphs.specs.inner.Edges.{edge}
use Rattle.spv_graphs.proofs.paths.add_edges.Given as goal

abbrev pub invariant-loop-target : goal.invariant-loop-target
invariant-loop-target l =
    l.edges.items ≡ l.fn.edges.items ++ map (edge l.block) (take l.target-index (targets_of l.graph l.block))
