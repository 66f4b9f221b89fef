use Rattle.std.proofs.Common.{take}
use Rattle.spv_table.specs.inner.Reached.{AddsAll}
use Rattle.spv_table.proofs.implied.Reached.add_all.Given as goal

abbrev pub invariant-loop-capability : goal.invariant-loop-capability
invariant-loop-capability l = AddsAll (take l.capability-index l.capabilities) l.initial.self l.self
