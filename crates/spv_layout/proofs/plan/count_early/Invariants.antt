use Rattle.std.proofs.Common.{map}
use Rattle.spv_module.specs.Module.{plain_inst}
use Rattle.spv_layout.specs.inner.Kept.{AreSectioned}
use Rattle.spv_layout.proofs.plan.count_early.Given as goal

abbrev pub invariant-loop-i : goal.invariant-loop-i
invariant-loop-i l = AreSectioned (map plain_inst l.insts) l.i
