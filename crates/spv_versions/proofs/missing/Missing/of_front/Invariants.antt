use Rattle.std.proofs.Common.{take}
use Rattle.spv_versions.specs.inner.Told.{AreTold}
use Rattle.spv_versions.proofs.missing.Missing.of_front.Given as goal

abbrev pub invariant-loop-number : goal.invariant-loop-number
invariant-loop-number l =
    AreTold l.minor (take l.number l.definitions) l.missing.lines l.missing.is_without_meaning
