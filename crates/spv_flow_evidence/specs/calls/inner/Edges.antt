-- Calls as edges. (For the code alone.)
use Rattle.std.specs.Prelude.{◌≡◌, ℕ, List, Some, slice_get}
use Rattle.spv_flow.specs.declared.calls.graph.Call.{Call}
use Rattle.spv_graphs.specs.declared.edge.Edge.{Edge}

-- the edge between functions that a call is
abbrev pub edge_of : Call → Edge
edge_of c = record { from = c.caller; to = c.callee }

-- The call is one of the list, and that instruction.
pub record IsListed (calls : List Call) (n : ℕ) (c : Call) : Type 0 where
  pub place : ℕ
  pub there : slice_get calls place ≡ Some c
  pub inst : c.inst ≡ n

-- No call of the list is that instruction.
pub record IsNotListed (calls : List Call) (n : ℕ) : Type 0 where
  pub each : (c : Call) → ¬ (IsListed calls n c)
