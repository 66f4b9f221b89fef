use Rattle.std.proofs.Common.{◌↔◌, drop}
use Rattle.spv_declarations.specs.inner.Misplaced.{IsAnyNever}
use Rattle.spv_declarations.proofs.misplaced.is_one_never.Given as goal

abbrev pub invariant-loop-decoration : goal.invariant-loop-decoration
invariant-loop-decoration l = IsAnyNever (drop l.decoration-index l.decorations) ↔ IsAnyNever l.decorations
