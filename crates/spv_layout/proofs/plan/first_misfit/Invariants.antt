use Rattle.std.proofs.Common.{map}
use Rattle.spv_module.specs.Module.{plain_inst}
use Rattle.spv_layout.specs.inner.Pass.{FitBelow}
use Rattle.spv_layout.proofs.plan.first_misfit.Given as goal

abbrev pub invariant-loop-i : goal.invariant-loop-i
invariant-loop-i l = FitBelow l.profile l.kinds (map plain_inst l.insts) l.i
