use Rattle.std.proofs.Common.{◌<◌, ℕ}
use Rattle.spv_declarations.specs.Given.{At}
use Rattle.spv_declarations.specs.inner.Said.{HasAt, ImportsBy}
use Rattle.spv_declarations.proofs.shown.import.first_import.Given as goal

abbrev pub invariant-loop-number : goal.invariant-loop-number
invariant-loop-number l =
    (k : ℕ) → k < l.number → ¬ (At l.definitions (HasAt l.definitions (ImportsBy l.linkage) l.x) k)
