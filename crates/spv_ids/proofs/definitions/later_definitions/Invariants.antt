use Rattle.std.proofs.Common.{map}
use Rattle.spv_module.specs.Module.{plain_inst}
use Rattle.spv_ids.specs.inner.Known.{AreLater}
use Rattle.spv_ids.proofs.definitions.later_definitions.Given as goal

abbrev pub invariant-loop-i : goal.invariant-loop-i
invariant-loop-i l = AreLater (map plain_inst l.insts) l.from l.i l.later
