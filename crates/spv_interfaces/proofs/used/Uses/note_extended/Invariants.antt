use Rattle.spv_table.specs.Table.{Table}
use Rattle.spv_module.specs.Module.{plain_inst}
use Rattle.spv_layout.specs.Shape.{FitsShape}
use Rattle.spv_interfaces.specs.inner.Uses.{AddsUses, AreNoted}
use Rattle.spv_interfaces.proofs.Using.{Used}
use Rattle.spv_interfaces.proofs.used.Uses.note_extended.Given as goal

abbrev pub invariant-loop-at : goal.invariant-loop-at
invariant-loop-at l = record {
  noted : AreNoted l.self.last.items l.self.found.items;
  added : (G : Table) → FitsShape G (plain_inst l.inst)
      → AddsUses (Used G l.wanted.minor l.definitions (plain_inst l.inst) l.number l.at) l.fn.self.found.items
      l.self.found.items;
}
