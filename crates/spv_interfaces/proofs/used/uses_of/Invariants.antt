use Rattle.spv_table.specs.Table.{Table}
use Rattle.spv_interfaces.specs.inner.Uses.{AreNoted, AreUses, Fit}
use Rattle.spv_interfaces.proofs.used.uses_of.Given as goal

abbrev pub invariant-loop-number : goal.invariant-loop-number
invariant-loop-number l = record {
  noted : AreNoted l.uses.last.items l.uses.found.items;
  uses : (G : Table) → Fit G l.definitions → AreUses G l.minor l.definitions l.number l.uses.found.items;
}
