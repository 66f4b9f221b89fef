-- A graph of four blocks: after the first come the second and the third, and after each of them the last.
use Rattle.std.specs.Prelude.{◌≡◌, [], ◌∷◌}
use Rattle.spv_graphs.specs.declared.graph.Graph.{Graph}
use Rattle.spv_graphs.specs.Graph.{block_count, targets_of}

pub record IsDiamond (graph : Graph) : Type 0 where
  pub count : block_count graph ≡ 4
  pub targets_0 : targets_of graph 0 ≡ 1 ∷ 2 ∷ []
  pub targets_1 : targets_of graph 1 ≡ 3 ∷ []
  pub targets_2 : targets_of graph 2 ≡ 3 ∷ []
  pub targets_3 : targets_of graph 3 ≡ []
