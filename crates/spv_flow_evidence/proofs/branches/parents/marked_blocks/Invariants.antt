use Rattle.std.proofs.Common.{◌≡◌}
use Rattle.spv_flow_evidence.specs.branches.inner.Known.{marked_below}
use Rattle.spv_flow_evidence.proofs.branches.parents.marked_blocks.Given as goal

abbrev pub invariant-loop-block : goal.invariant-loop-block
invariant-loop-block l = l.blocks.items ≡ marked_below l.marks l.block
