use Rattle.std.proofs.Common.{◌-◌}
use Rattle.spv_block_order.specs.inner.Rising.{AreUpTo}
use Rattle.spv_block_order.proofs.Telling.{AreUnbroken}
use Rattle.spv_block_order.proofs.faults.first_fault.Given as goal

abbrev pub invariant-loop-at : goal.invariant-loop-at
invariant-loop-at l = record {
  marks : AreUpTo l.marks.items l.at;
  none : AreUnbroken l.code l.at;
}

abbrev pub decreases-loop-at : goal.decreases-loop-at
decreases-loop-at l = l.count - l.at
