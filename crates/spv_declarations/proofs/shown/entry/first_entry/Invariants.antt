use Rattle.std.proofs.Common.{◌<◌, ℕ}
use Rattle.spv_declarations.specs.Given.{At}
use Rattle.spv_declarations.specs.inner.Shown.{Enters}
use Rattle.spv_declarations.proofs.shown.entry.first_entry.Given as goal

abbrev pub invariant-loop-number : goal.invariant-loop-number
invariant-loop-number l = (k : ℕ) → k < l.number → ¬ (At l.definitions (Enters l.functions) k)
