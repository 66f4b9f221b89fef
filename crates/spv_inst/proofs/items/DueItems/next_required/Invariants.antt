use Rattle.std.proofs.Common.{◌≡◌, false}
use Rattle.spv_inst.specs.inner.Items.{settled}
use Rattle.spv_inst.proofs.Patterns.{due_from}
use Rattle.spv_inst.proofs.items.DueItems.next_required.Given as goal

abbrev pub invariant-loop-index : goal.invariant-loop-index
invariant-loop-index l = settled false (due_from l.self.left.now 0) ≡ settled false (due_from l.self.left.now l.index)
