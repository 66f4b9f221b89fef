use Rattle.std.proofs.Common.{take}
use Rattle.spv_graphs.specs.inner.Steps.{AreFirst}
use Rattle.spv_graphs.proofs.ways.first_steps.Given as goal

abbrev pub invariant-loop-start : goal.invariant-loop-start
invariant-loop-start l = AreFirst l.count (take l.start-index l.starts) l.steps.items
