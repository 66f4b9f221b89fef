use Rattle.spv_interfaces.specs.inner.Cleared.{Clears, IsCalledBefore}
use Rattle.spv_interfaces.proofs.cleared.clear_calls.Given as goal

abbrev pub invariant-loop-call : goal.invariant-loop-call
invariant-loop-call l = Clears (IsCalledBefore l.calls l.call-index) l.fn.words.items l.words.items
