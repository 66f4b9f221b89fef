-- The edges of a graph of blocks, one by one, and shortest paths along them. (For the code alone.)
use Rattle.std.specs.Prelude.{◌≡◌, ◌≤◌, ◌<◌, ℕ, List, ◌∷◌, Bool, Contains, length, reverse, nat_le, nat_lt, ◌&&◌}
use Rattle.spv_graphs.specs.declared.graph.Graph.{Graph}
use Rattle.spv_graphs.specs.declared.graph.Block.{Block}
use Rattle.spv_graphs.specs.Graph.{targets_of}
use Rattle.spv_graphs.specs.Path.{IsPath, IsDefinedOn}
use Rattle.spv_graphs.specs.declared.edge.Edge.{Edge}

abbrev pub edge : ℕ → ℕ → Edge
edge b t = record { from = b; to = t }

-- The edges are those from the first n blocks to their targets.
pub record AreEdges (graph : Graph) (n : ℕ) (edges : List Edge) : Type 0 where
  pub sound : (e : Edge) → Contains edges e → (e.from < n) × Contains (targets_of graph e.from) e.to
  pub complete : (b t : ℕ) → b < n → Contains (targets_of graph b) t → Contains edges (edge b t)

-- whether a block defines the value
abbrev pub defines : ℕ → Block → Bool
defines v s = nat_le s.first_value v && nat_lt v s.end_value

-- The blocks, from the first on, are those of a path to block b on which the value is not defined before, and none is
-- shorter.
pub record IsShortestPast (graph : Graph) (v b : ℕ) (way : List ℕ) : Type 0 where
  pub past : List ℕ
  pub path : IsPath graph past b
  pub undefined : ¬ (IsDefinedOn graph past v)
  pub blocks : way ≡ reverse (b ∷ past)
  pub least : (other : List ℕ) → IsPath graph other b → ¬ (IsDefinedOn graph other v)
      → length past ≤ length other
