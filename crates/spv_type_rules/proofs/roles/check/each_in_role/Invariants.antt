use Rattle.spv_table.specs.Table.{Table}
use Rattle.spv_module.specs.Module.{plain_inst}
use Rattle.spv_layout.specs.Shape.{FitsShape}
use Rattle.spv_type_rules.specs.roles.inner.Known.{AreInRoleBefore}
use Rattle.spv_type_rules.proofs.roles.check.each_in_role.Given as goal

abbrev pub invariant-loop-k : goal.invariant-loop-k
invariant-loop-k l = (G : Table) → FitsShape G (plain_inst l.inst)
    → AreInRoleBefore G l.definitions (plain_inst l.inst) l.k
