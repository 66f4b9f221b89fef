-- Calls as a list of pairs of numbers. (For the code alone.)
use Rattle.std.specs.Prelude.{◌≡◌, ◌<◌, ℕ, List, slice_get, Some}
use Rattle.spv_flow.specs.declared.calls.graph.Call.{Call}
use Rattle.spv_flow.specs.calls.Chain.{Chain}

-- Some call of the list is from one function to the other.
pub record HasCall (calls : List Call) (f g : ℕ) : Type 0 where
  pub place : ℕ
  pub call : Call
  pub there : slice_get calls place ≡ Some call
  pub from : call.caller ≡ f
  pub to : call.callee ≡ g

-- The calls are of functions below n.
pub record AreWithin (n : ℕ) (calls : List Call) : Type 0 where
  pub each : (k : ℕ) (c : Call) → slice_get calls k ≡ Some c → (c.caller < n) × (c.callee < n)

-- The functions are below n.
pub record AreBelow (n : ℕ) (functions : List ℕ) : Type 0 where
  pub each : (k f : ℕ) → slice_get functions k ≡ Some f → f < n

-- A chain of the calls leads from one of the starts to the function.
pub record IsReached (calls : List Call) (starts : List ℕ) (f : ℕ) : Type 0 where
  pub place : ℕ
  pub start : ℕ
  pub listed : slice_get starts place ≡ Some start
  pub chain : Chain (HasCall calls) start f

-- The call of that place is on a cycle of calls which a start leads to.
pub record IsCyclic (calls : List Call) (starts : List ℕ) (k : ℕ) : Type 0 where
  pub call : Call
  pub there : slice_get calls k ≡ Some call
  pub reached : IsReached calls starts call.caller
  pub back : Chain (HasCall calls) call.callee call.caller

-- None of the calls before that place is on a cycle which a start leads to.
pub record NoneBefore (calls : List Call) (starts : List ℕ) (k : ℕ) : Type 0 where
  pub each : (j : ℕ) → j < k → ¬ (IsCyclic calls starts j)

-- The call of that place is the first on a cycle which a start leads to.
pub record IsFirstCyclic (calls : List Call) (starts : List ℕ) (k : ℕ) : Type 0 where
  pub cyclic : IsCyclic calls starts k
  pub before : NoneBefore calls starts k
