use Rattle.std.specs.Prelude.{List}
use Rattle.spv_table.specs.Table.{Table}
use Rattle.spv_module.specs.Module.{plain_insts}
use Rattle.spv_layout.specs.declared.place.Place.{Place}
use Rattle.spv_layout.specs.Plan.{IsPlan}
use Rattle.spv_type_rules.specs.roles.inner.Known.{AreInRoleUpTo}
use Rattle.spv_type_rules.proofs.roles.check.roles_check.Given as goal

abbrev pub invariant-loop-n : goal.invariant-loop-n
invariant-loop-n l = (G : Table) (plan : List Place) → IsPlan G (plain_insts l.module) plan
    → AreInRoleUpTo G (plain_insts l.module) l.n
