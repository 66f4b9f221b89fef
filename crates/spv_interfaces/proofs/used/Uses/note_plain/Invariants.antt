use Rattle.spv_table.specs.Table.{Table}
use Rattle.spv_module.specs.Module.{plain_inst}
use Rattle.spv_layout.specs.Shape.{FitsShape}
use Rattle.spv_interfaces.specs.inner.Uses.{AddsUses, AreNoted}
use Rattle.spv_interfaces.proofs.Using.{Used}
use Rattle.spv_interfaces.proofs.used.Uses.note_plain.Given as goal

abbrev pub invariant-loop-operand : goal.invariant-loop-operand
invariant-loop-operand l = record {
  noted : AreNoted l.self.last.items l.self.found.items;
  added : (G : Table) → FitsShape G (plain_inst l.inst)
      → AddsUses (Used G l.wanted.minor l.definitions (plain_inst l.inst) l.number l.operand-index)
      l.fn.self.found.items l.self.found.items;
}
