use Rattle.spv_interfaces.specs.inner.Marks.{Grows}
use Rattle.spv_interfaces.proofs.Marking.{room}
use Rattle.spv_interfaces.proofs.marks.spread.Given as goal

abbrev pub invariant-loop-call : goal.invariant-loop-call
invariant-loop-call l = Grows l.calls l.fn.words.items l.words.items

abbrev pub decreases-loop-call : goal.decreases-loop-call
decreases-loop-call l = room l.words.items
