use Rattle.spv_interfaces.specs.inner.Turned.{AreTurnedOf}
use Rattle.spv_interfaces.proofs.turned.turn_all.Given as goal

abbrev pub invariant-loop-call : goal.invariant-loop-call
invariant-loop-call l = AreTurnedOf l.calls l.live l.call-index l.turned.items
