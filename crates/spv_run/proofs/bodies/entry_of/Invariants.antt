use Rattle.std.proofs.Common.{map}
use Rattle.spv_module.specs.Module.{plain_inst}
use Rattle.spv_run.specs.inner.Bodies.{IsHead}
use Rattle.spv_run.proofs.bodies.entry_of.Given as goal

abbrev pub invariant-loop-at : goal.invariant-loop-at
invariant-loop-at l = IsHead (map plain_inst l.insts) l.function l.at
