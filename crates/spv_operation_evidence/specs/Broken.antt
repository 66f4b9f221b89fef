-- Y5, broken in a module whose layout, ids and roles are sound. (Own.)
use Rattle.std.specs.Prelude.{◌≡◌, ℕ, List, Some, slice_get}
use Rattle.spv_table.specs.Table.{Table}
use Rattle.spv_module.specs.Operand.{PlainInst}
use Rattle.spv_layout.specs.declared.place.Place.{Place}
use Rattle.spv_layout.specs.Plan.{IsPlan}
use Rattle.spv_type_rules.specs.roles.Outcome.{AreInRole}
use Rattle.spv_ops.specs.Typed.{IsTyped}

-- Instruction n is not typed. These are the places of the instructions.
pub record IsBroken (G : Table) (is : List PlainInst) (places : List Place) (n : ℕ) : Type 0 where
  pub plan : IsPlan G is places
  pub roles : AreInRole G is
  pub inst : PlainInst
  pub there : slice_get is n ≡ Some inst
  pub broken : ¬ (IsTyped G is n inst)
