use Rattle.std.proofs.Common.{◌≡◌, map, length}
use Rattle.spv_module.specs.Module.{plain_inst}
use Rattle.spv_run.specs.inner.Bodies.{HaveEntriesBefore}
use Rattle.spv_run.proofs.bodies.entries_of.Given as goal

abbrev pub invariant-loop-at : goal.invariant-loop-at
invariant-loop-at l = (length l.entries.items ≡ l.at) × HaveEntriesBefore (map plain_inst l.insts) l.at l.entries.items
