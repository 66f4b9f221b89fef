use Rattle.spv_declarations.specs.inner.Said.{HasAt, ImportsBy}
use Rattle.spv_declarations.specs.inner.Sets.{Gathers}
use Rattle.spv_declarations.proofs.initialized.imported.Given as goal

abbrev pub invariant-loop-number : goal.invariant-loop-number
invariant-loop-number l =
    Gathers l.number l.definitions (λ i x. HasAt l.definitions (ImportsBy l.linkage) x i) l.imported
