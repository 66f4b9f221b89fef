use Rattle.std.proofs.Common.{◌≡◌, ◌<◌, ℕ, Some}
use Rattle.std.specs.Prelude.{slice_get}
use Rattle.spv_flow.specs.declared.calls.graph.Call.{Call}
use Rattle.spv_flow.specs.calls.inner.Components.{number_of}
use Rattle.spv_flow.proofs.calls.ordered.are_falling.Given as goal

abbrev pub invariant-loop-call : goal.invariant-loop-call
invariant-loop-call l = (k : ℕ) (c : Call) → k < l.call-index → slice_get l.calls k ≡ Some c
    → number_of l.numbers c.callee < number_of l.numbers c.caller
