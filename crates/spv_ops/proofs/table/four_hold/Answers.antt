use Rattle.spv_ops.proofs.Held.{after, never}
use Rattle.spv_ops.proofs.table.four_hold.Goals as goal

pub returns-then-holds : goal.returns-then-holds
returns-then-holds c = after _ _ _ _ c.if-holds.true c.holds.ensures c.three_hold.ensures

pub returns-else-holds : goal.returns-else-holds
returns-else-holds c = never _ _ _ c.if-holds.false c.holds.ensures
