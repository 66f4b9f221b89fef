use Rattle.std.proofs.Common.{map}
use Rattle.spv_module.specs.Module.{plain_inst}
use Rattle.spv_form_evidence.specs.ids.inner.Scope.{AreLocal}
use Rattle.spv_form_evidence.proofs.ids.scope.local_definitions.Given as goal

abbrev pub invariant-loop-i : goal.invariant-loop-i
invariant-loop-i l = AreLocal l.bound (map plain_inst l.insts) l.here l.i l.local
