-- Calls that make no cycle, since they are in an order. (For the code alone.)
use Rattle.std.specs.Prelude.{◌≡◌, ◌<◌, ℕ, List, Some, slice_get}
use Rattle.spv_flow.specs.declared.calls.graph.Call.{Call}
use Rattle.spv_flow.specs.declared.calls.ordered.Way.{Way}
use Rattle.spv_flow.specs.declared.calls.ordered.Way.TheVariants.{Back, On}
use Rattle.spv_flow.specs.calls.Chain.{Chain}
use Rattle.spv_flow.specs.calls.inner.Graph.{HasCall}
use Rattle.spv_flow.specs.calls.inner.Components.{number_of}

-- The call is of a function before its caller, or of one after it.
abbrev pub Leads : Way → Call → Type 0
Leads Back c = c.callee < c.caller
Leads On c = c.caller < c.callee

-- Each call leads that way.
pub record AllLead (way : Way) (calls : List Call) : Type 0 where
  pub each : (k : ℕ) (c : Call) → slice_get calls k ≡ Some c → Leads way c

-- Each call is of a function of a lower component than its caller's.
pub record AreFalling (calls : List Call) (numbers : List ℕ) : Type 0 where
  pub each : (k : ℕ) (c : Call) → slice_get calls k ≡ Some c
      → number_of numbers c.callee < number_of numbers c.caller

-- No call is on a cycle.
pub record AreAcyclic (calls : List Call) : Type 0 where
  pub each : (k : ℕ) (c : Call) → slice_get calls k ≡ Some c → ¬ (Chain (HasCall calls) c.callee c.caller)
