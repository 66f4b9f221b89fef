use Rattle.std.proofs.Common.{◌<◌, ℕ}
use Rattle.spv_declarations.specs.Given.{At, Gives}
use Rattle.spv_declarations.specs.inner.Said.{HasAt}
use Rattle.spv_declarations.proofs.shown.other.first_by.Given as goal

abbrev pub invariant-loop-number : goal.invariant-loop-number
invariant-loop-number l =
    (k : ℕ) → k < l.number → ¬ (At l.definitions (HasAt l.definitions (Gives l.decoration) l.x) k)
