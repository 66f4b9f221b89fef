-- Ways along edges, and shortest ones. (Own.)
use Rattle.std.specs.Prelude.{◌≡◌, ◌≤◌, ◌<◌, ℕ, List, [], ◌∷◌, Bool, false, Some, Contains}
use Rattle.std.specs.Prelude.{length, reverse, slice_get}
use Rattle.spv_graphs.specs.declared.edge.Edge.{Edge}

-- Some edge leads from one node to the other.
pub record HasEdge (edges : List Edge) (p b : ℕ) : Type 0 where
  pub place : ℕ
  pub edge : Edge
  pub there : slice_get edges place ≡ Some edge
  pub from : edge.from ≡ p
  pub to : edge.to ≡ b

-- A way begins with one of the starts, each next node is one that an edge leads to from the one before, and only its
-- last node may be closed. It ends at b, and `past` are the nodes before, the last of them first.
abbrev pub IsWay : List Edge → List ℕ → List Bool → List ℕ → ℕ → Type 0
IsWay edges starts closed [] b = Contains starts b
IsWay edges starts closed (h ∷ past) b =
    HasEdge edges h b × (slice_get closed h ≡ Some false) × IsWay edges starts closed past h

-- The nodes, from the first on, are those of a way to the goal, and no way to it is shorter.
pub record IsShortest (edges : List Edge) (starts : List ℕ) (closed : List Bool) (goal : ℕ) (nodes : List ℕ)
    : Type 0 where
  pub past : List ℕ
  pub way : IsWay edges starts closed past goal
  pub listed : nodes ≡ reverse (goal ∷ past)
  pub least : (other : List ℕ) → IsWay edges starts closed other goal → length past ≤ length other

-- Both ends of each edge are below n.
pub record AreWithin (n : ℕ) (edges : List Edge) : Type 0 where
  pub each : (k : ℕ) (e : Edge) → slice_get edges k ≡ Some e → (e.from < n) × (e.to < n)

-- The nodes are below n.
pub record AreBelow (n : ℕ) (nodes : List ℕ) : Type 0 where
  pub each : (k b : ℕ) → slice_get nodes k ≡ Some b → b < n
