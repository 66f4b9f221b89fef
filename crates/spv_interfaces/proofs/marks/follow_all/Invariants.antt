use Rattle.spv_interfaces.specs.inner.Marks.{Grows}
use Rattle.spv_interfaces.proofs.marks.follow_all.Given as goal

abbrev pub invariant-loop-call : goal.invariant-loop-call
invariant-loop-call l = Grows l.calls l.fn.words.items l.words.items
