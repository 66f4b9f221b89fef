use Rattle.spv_interfaces.specs.inner.Marks.{Grows}
use Rattle.spv_interfaces.proofs.marks.follow_in_order.Given as goal

abbrev pub invariant-loop-place : goal.invariant-loop-place
invariant-loop-place l = Grows l.calls l.fn.words.items l.words.items
