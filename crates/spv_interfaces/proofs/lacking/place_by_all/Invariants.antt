use Rattle.std.proofs.Common.{◌≤◌, ◌-◌, ℕ, length}
use Rattle.spv_table.specs.Table.{Table}
use Rattle.spv_interfaces.specs.inner.Uses.{AreUses}
use Rattle.spv_interfaces.proofs.Missing.{AreUpTo}
use Rattle.spv_interfaces.proofs.lacking.place_by_all.Given as goal

abbrev pub invariant-loop-at : goal.invariant-loop-at
invariant-loop-at l = record {
  within : l.place ≤ length l.entries;
  first : (G : Table) (minor : ℕ) → AreUses G minor l.definitions (length l.definitions) l.tree.uses.now
      → AreUpTo G minor l.definitions l.variables l.entries l.at l.place;
}

abbrev pub decreases-loop-at : goal.decreases-loop-at
decreases-loop-at l = length l.variables - l.at
