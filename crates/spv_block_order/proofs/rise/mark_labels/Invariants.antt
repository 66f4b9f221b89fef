use Rattle.std.proofs.Common.{◌-◌, length}
use Rattle.spv_block_order.specs.inner.Rising.{AreMarked}
use Rattle.spv_block_order.proofs.rise.mark_labels.Given as goal

abbrev pub invariant-loop-n : goal.invariant-loop-n
invariant-loop-n l = AreMarked l.code l.at l.fn.marks l.marks

abbrev pub decreases-loop-n : goal.decreases-loop-n
decreases-loop-n l = length l.operands - l.n
