use Rattle.std.proofs.Common.{◌<◌, ℕ}
use Rattle.spv_declarations.specs.Entry.{IsRepeated}
use Rattle.spv_declarations.specs.inner.Named.{AreSeen}
use Rattle.spv_declarations.proofs.entry.first_repeated.Given as goal

abbrev pub invariant-loop-number : goal.invariant-loop-number
invariant-loop-number l = record {
  seen : AreSeen l.number l.definitions l.seen;
  before : (k : ℕ) → k < l.number → ¬ (IsRepeated l.definitions k);
}
