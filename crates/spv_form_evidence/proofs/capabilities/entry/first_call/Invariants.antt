use Rattle.std.proofs.Common.{map}
use Rattle.spv_module.specs.Module.{plain_inst}
use Rattle.spv_form_evidence.specs.capabilities.inner.Calls.{AreNoCallsBefore}
use Rattle.spv_form_evidence.proofs.capabilities.entry.first_call.Given as goal

abbrev pub invariant-loop-number : goal.invariant-loop-number
invariant-loop-number l = AreNoCallsBefore (map plain_inst l.insts) l.function l.number
