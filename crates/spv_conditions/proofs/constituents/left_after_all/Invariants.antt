use Rattle.std.proofs.Common.{◌≡◌, drop}
use Rattle.spv_conditions.specs.inner.Shares.{left_of}
use Rattle.spv_conditions.proofs.constituents.left_after_all.Given as goal

abbrev pub invariant-loop-value : goal.invariant-loop-value
invariant-loop-value l =
    left_of l.definitions l.c l.types l.n ≡ left_of l.definitions l.c (drop l.value-index l.types) l.left
