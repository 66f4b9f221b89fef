use Rattle.std.proofs.Common.{map}
use Rattle.spv_module.specs.Module.{plain_inst}
use Rattle.spv_form_evidence.specs.ids.inner.Known.{AreFirst}
use Rattle.spv_form_evidence.proofs.ids.definitions.first_definitions.Given as goal

abbrev pub invariant-loop-i : goal.invariant-loop-i
invariant-loop-i l = AreFirst l.bound (map plain_inst l.insts) l.i l.definitions
