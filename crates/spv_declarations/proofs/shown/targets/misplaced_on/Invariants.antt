use Rattle.std.proofs.Common.{◌↔◌, drop}
use Rattle.spv_declarations.specs.inner.Misplaced.{IsAnyMisplaced}
use Rattle.spv_declarations.proofs.shown.targets.misplaced_on.Given as goal

abbrev pub invariant-loop-decoration : goal.invariant-loop-decoration
invariant-loop-decoration l =
    IsAnyMisplaced l.definitions (drop l.decoration-index l.decorations) l.x
    ↔ IsAnyMisplaced l.definitions l.decorations l.x
