use Rattle.std.proofs.Common.{map}
use Rattle.spv_module.specs.Module.{plain_inst}
use Rattle.spv_flow.specs.calls.inner.Found.{AreCalls}
use Rattle.spv_flow.proofs.calls.gather.calls_of.Given as goal

abbrev pub invariant-loop-i : goal.invariant-loop-i
invariant-loop-i l = AreCalls (map plain_inst l.insts) l.i l.calls.items
