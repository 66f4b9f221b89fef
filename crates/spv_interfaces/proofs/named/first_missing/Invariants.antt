use Rattle.std.proofs.Common.{◌≡◌, ◌<◌, ◌-◌, ℕ, Some, length}
use Rattle.std.specs.Prelude.{slice_get}
use Rattle.spv_table.specs.Table.{Table}
use Rattle.spv_interfaces.specs.inner.Cleared.{AreFresh}
use Rattle.spv_interfaces.specs.inner.Entries.{IsUnnamed}
use Rattle.spv_interfaces.specs.inner.Uses.{AreUses}
use Rattle.spv_interfaces.proofs.named.first_missing.Given as goal

abbrev pub invariant-loop-at : goal.invariant-loop-at
invariant-loop-at l = record {
  fresh : AreFresh (length l.definitions) l.marks.reached.items l.marks.named.items;
  before : (G : Table) (minor : ℕ) → AreUses G minor l.definitions (length l.definitions) l.tree.uses.now
      → (k m : ℕ) → k < l.at → slice_get l.entries k ≡ Some m → ¬ (IsUnnamed G minor l.definitions m);
}

abbrev pub decreases-loop-at : goal.decreases-loop-at
decreases-loop-at l = length l.entries - l.at
