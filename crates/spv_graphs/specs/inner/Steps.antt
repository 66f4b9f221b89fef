-- The steps of a search in breadth. (For the code alone.)
use Rattle.std.specs.Prelude.{◌≡◌, ◌+◌, ◌≤◌, ◌<◌, ℕ, List, [], ◌∷◌, ◌++◌, Bool, false}
use Rattle.std.specs.Prelude.{Some, Contains, length, count_by, nat_le, reverse, slice_get, slice_index_or, slice_set}
use Rattle.spv_graphs.specs.Graph.{most_blocks}
use Rattle.spv_graphs.specs.declared.edge.Edge.{Edge}
use Rattle.spv_graphs.specs.declared.steps.Step.{Step}
use Rattle.spv_graphs.specs.Way.{HasEdge}

-- the level of a node to which no way is known
abbrev pub unknown : ℕ
unknown = 4294967295

-- the step by which a node is come to
abbrev pub step_of : List Step → ℕ → Step
step_of steps b = slice_index_or steps b (record { level = unknown; before = 0 })

abbrev pub level_of : List Step → ℕ → ℕ
level_of steps b = (step_of steps b).level

abbrev pub before_of : List Step → ℕ → ℕ
before_of steps b = (step_of steps b).before

-- the steps after coming along an edge to where it leads
abbrev pub step_by : List Step → Edge → Step
step_by steps e = record { level = level_of steps e.from + 1; before = e.from }

abbrev pub come : List Step → Edge → List Step
come steps e = slice_set steps e.to (step_by steps e)

-- how many nodes no way is known to
abbrev pub unknown_count : List Step → ℕ
unknown_count steps = count_by (λ (s : Step). nat_le unknown s.level) steps

-- The node is a start; or an edge leads to it from an open node of a lower level.
pub data IsReached (edges : List Edge) (starts : List ℕ) (closed : List Bool) (steps : List Step) (b : ℕ)
    : Type 0 where
  start : level_of steps b ≡ 0 → Contains starts b → IsReached edges starts closed steps b
  along : HasEdge edges (before_of steps b) b → slice_get closed (before_of steps b) ≡ Some false
      → level_of steps (before_of steps b) < level_of steps b → IsReached edges starts closed steps b

-- Each start has level 0, and each node of a known level is reached. The fewer levels are known, the lower they are.
pub record AreSteps (edges : List Edge) (starts : List ℕ) (closed : List Bool) (steps : List Step) : Type 0 where
  pub count : length steps ≡ length closed
  pub few : length closed ≤ most_blocks
  pub begun : (k b : ℕ) → slice_get starts k ≡ Some b → level_of steps b ≡ 0
  pub reached : (b : ℕ) → level_of steps b < unknown → IsReached edges starts closed steps b
  pub low : (b : ℕ) → level_of steps b < unknown → level_of steps b + unknown_count steps < length closed

-- Of n nodes just the starts have a known level, which is 0.
pub record AreFirst (n : ℕ) (starts : List ℕ) (steps : List Step) : Type 0 where
  pub count : length steps ≡ n
  pub begun : (k b : ℕ) → slice_get starts k ≡ Some b → level_of steps b ≡ 0
  pub reached : (b : ℕ) → level_of steps b < unknown → (level_of steps b ≡ 0) × Contains starts b
  pub low : (b : ℕ) → level_of steps b < unknown → unknown_count steps < n

-- Whatever the starts, what was known of the steps is known of the new ones.
pub record Keeps (edges : List Edge) (closed : List Bool) (old new : List Step) : Type 0 where
  pub count : length new ≡ length old
  pub kept : (starts : List ℕ) → AreSteps edges starts closed old → AreSteps edges starts closed new

-- The edge leads from an open node to one whose level is higher by more than one.
pub record Shortens (closed : List Bool) (steps : List Step) (e : Edge) : Type 0 where
  pub «open» : slice_get closed e.from ≡ Some false
  pub known : level_of steps e.from < unknown
  pub higher : level_of steps e.from + 1 < level_of steps e.to

-- One of the edges does so.
pub record IsShorter (edges : List Edge) (closed : List Bool) (steps : List Step) (e : Edge) : Type 0 where
  pub place : ℕ
  pub there : slice_get edges place ≡ Some e
  pub shortens : Shortens closed steps e

-- None of the edges does so.
pub record AreSettled (edges : List Edge) (closed : List Bool) (steps : List Step) : Type 0 where
  pub each : (k : ℕ) (e : Edge) → slice_get edges k ≡ Some e → ¬ (Shortens closed steps e)

-- The node before one has a lower level.
pub record AreFalling (steps : List Step) : Type 0 where
  pub each : (b : ℕ) → 0 < level_of steps b → level_of steps b < unknown
      → level_of steps (before_of steps b) < level_of steps b

-- The nodes before b, the last of them first, by the steps.
abbrev pub IsTrail : List Step → List ℕ → ℕ → Type 0
IsTrail steps [] b = level_of steps b ≡ 0
IsTrail steps (h ∷ past) b = (0 < level_of steps b) × (before_of steps b ≡ h) × IsTrail steps past h

-- A trail to the goal goes by those nodes, the last of them first, and on from b.
pub record IsTraced (steps : List Step) (goal : ℕ) (nodes : List ℕ) (b : ℕ) : Type 0 where
  pub known : level_of steps b < unknown
  pub on : (past : List ℕ) → IsTrail steps past b
      → (whole : List ℕ) × IsTrail steps whole goal × (goal ∷ whole ≡ nodes ++ past)

-- The nodes, from the first on, are those of a trail to the goal.
pub record IsTrace (steps : List Step) (goal : ℕ) (nodes : List ℕ) : Type 0 where
  pub past : List ℕ
  pub trail : IsTrail steps past goal
  pub listed : nodes ≡ reverse (goal ∷ past)
