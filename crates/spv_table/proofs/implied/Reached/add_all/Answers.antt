use Rattle.std.proofs.Common.{arith}
use Rattle.spv_table.specs.inner.Reached.{AddsAll}
use Rattle.spv_table.proofs.Search.{more_at}
use Rattle.spv_table.proofs.implied.Reached.add_all.Goals as goal

pub loop-capability-init : goal.loop-capability-init
loop-capability-init c = AddsAll.none c.args.self.now

pub loop-capability-preserved : goal.loop-capability-preserved
loop-capability-preserved c = more_at c.args.capabilities.now c.loop-capability.capability-index c.args.self.now c.loop-capability.self c.add.new.self (omega arith) c.loop-capability.invariant c.in_ok-add.ensures
