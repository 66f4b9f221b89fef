use Rattle.std.proofs.Common.{◌≡◌}
use Rattle.spv_inst.specs.inner.Pending.{parameters_from}
use Rattle.spv_inst.proofs.pending.parameters_at.Given as goal

abbrev pub invariant-loop-position : goal.invariant-loop-position
invariant-loop-position l =
    parameters_from l.table l.kind l.mask l.from ≡ parameters_from l.table l.kind l.mask l.position
