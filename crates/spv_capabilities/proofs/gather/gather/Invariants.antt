use Rattle.std.proofs.Common.{map}
use Rattle.spv_module.specs.Module.{plain_inst}
use Rattle.spv_capabilities.specs.inner.Survey.{AreGathered}
use Rattle.spv_capabilities.proofs.gather.gather.Given as goal

abbrev pub invariant-loop-inst : goal.invariant-loop-inst
invariant-loop-inst l = AreGathered l.linkage (map plain_inst l.insts) l.inst-index l.gathered
