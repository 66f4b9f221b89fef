use Rattle.std.proofs.Common.{◌≡◌, ◌<◌, ℕ, Some}
use Rattle.std.specs.Prelude.{slice_get}
use Rattle.spv_flow.specs.declared.calls.graph.Call.{Call}
use Rattle.spv_interfaces.specs.inner.Marks.{IsMarked}
use Rattle.spv_interfaces.proofs.marks.open_call.Given as goal

abbrev pub invariant-loop-call : goal.invariant-loop-call
invariant-loop-call l = (place : ℕ) (c : Call) → place < l.call-index → slice_get l.calls place ≡ Some c
    → (k : ℕ) → IsMarked l.words c.caller k → IsMarked l.words c.callee k
