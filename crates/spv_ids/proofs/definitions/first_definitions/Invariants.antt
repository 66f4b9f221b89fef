use Rattle.std.proofs.Common.{◌≤◌, map}
use Rattle.spv_module.specs.Module.{plain_inst}
use Rattle.spv_ids.specs.inner.Known.{AreFirst}
use Rattle.spv_ids.proofs.definitions.first_definitions.Given as goal

abbrev pub invariant-loop-i : goal.invariant-loop-i
invariant-loop-i l = record { first : AreFirst l.bound (map plain_inst l.insts) l.i l.definitions; few : l.count ≤ l.i }
