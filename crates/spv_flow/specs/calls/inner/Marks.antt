-- Functions that are marked. (For the code alone.)
use Rattle.std.specs.Prelude.{◌≡◌, ◌<◌, ℕ, List, Bool, true, false, Some, length, slice_get, slice_index_or}
use Rattle.spv_flow.specs.declared.calls.graph.Call.{Call}
use Rattle.spv_flow.specs.calls.Chain.{Chain}
use Rattle.spv_flow.specs.calls.inner.Graph.{HasCall, IsReached}

-- whether a function is marked
abbrev pub is_marked : List Bool → ℕ → Bool
is_marked marks f = slice_index_or marks f false

-- More functions are marked, each of which a chain leads to from one that was marked.
pub record Grows (calls : List Call) (old new : List Bool) : Type 0 where
  pub count : length new ≡ length old
  pub kept : (f : ℕ) → is_marked old f ≡ true → is_marked new f ≡ true
  pub sound : (f : ℕ) → is_marked new f ≡ true → (e : ℕ) × (is_marked old e ≡ true)
      × Chain (HasCall calls) e f

-- From a function that is marked each call is of one that is marked.
pub record IsClosed (calls : List Call) (marks : List Bool) : Type 0 where
  pub each : (k : ℕ) (c : Call) → slice_get calls k ≡ Some c → is_marked marks c.caller ≡ true
      → is_marked marks c.callee ≡ true

-- The call leads from a function that is marked to one that is not.
pub record IsOpen (calls : List Call) (marks : List Bool) (c : Call) : Type 0 where
  pub place : ℕ
  pub there : slice_get calls place ≡ Some c
  pub from : is_marked marks c.caller ≡ true
  pub to : is_marked marks c.callee ≡ false

-- Of n functions just the starts are marked.
pub record AreStarts (n : ℕ) (starts : List ℕ) (marks : List Bool) : Type 0 where
  pub count : length marks ≡ n
  pub sound : (f : ℕ) → is_marked marks f ≡ true → (k : ℕ) × (slice_get starts k ≡ Some f)
  pub complete : (k f : ℕ) → slice_get starts k ≡ Some f → f < n → is_marked marks f ≡ true

-- Of n functions just those are marked that the starts lead to.
pub record AreReached (n : ℕ) (calls : List Call) (starts : List ℕ) (marks : List Bool) : Type 0 where
  pub count : length marks ≡ n
  pub sound : (f : ℕ) → is_marked marks f ≡ true → IsReached calls starts f
  pub complete : (k e f : ℕ) → slice_get starts k ≡ Some e → e < n → Chain (HasCall calls) e f
      → is_marked marks f ≡ true
