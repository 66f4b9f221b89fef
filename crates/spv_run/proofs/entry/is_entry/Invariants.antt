use Rattle.std.proofs.Common.{map}
use Rattle.spv_module.specs.Module.{plain_inst}
use Rattle.spv_run.proofs.Entries.{NoEntryBefore}
use Rattle.spv_run.proofs.entry.is_entry.Given as goal

abbrev pub invariant-loop-at : goal.invariant-loop-at
invariant-loop-at l = NoEntryBefore (map plain_inst l.insts) l.at l.function
