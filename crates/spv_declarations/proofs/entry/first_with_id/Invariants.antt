use Rattle.std.proofs.Common.{ℕ, ◌<◌}
use Rattle.spv_declarations.specs.Entry.{TakesId}
use Rattle.spv_declarations.proofs.entry.first_with_id.Given as goal

abbrev pub invariant-loop-number : goal.invariant-loop-number
invariant-loop-number l = (k : ℕ) → k < l.number → ¬ (TakesId l.definitions k)
