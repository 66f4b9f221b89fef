use Rattle.std.proofs.Common.{map}
use Rattle.spv_module.specs.Module.{plain_inst}
use Rattle.spv_flow.specs.calls.inner.Found.{AreEntries}
use Rattle.spv_flow.proofs.calls.gather.entries_of.Given as goal

abbrev pub invariant-loop-inst : goal.invariant-loop-inst
invariant-loop-inst l = AreEntries (map plain_inst l.insts) l.inst-index l.entries.items
