-- A list of instructions on which no rule is broken. (Own.)
use Rattle.std.specs.Prelude.{◌≡◌, ℕ, List, Some, slice_get}
use Rattle.spv_table.specs.Table.{Table}
use Rattle.spv_module.specs.Operand.{PlainInst}
use Rattle.spv_module.specs.declared.fault.Rule.{Rule}
use Rattle.spv_layout.specs.First.{IsUnbroken}
use Rattle.spv_layout.specs.Layout.{IsLayout, classes}
use Rattle.spv_layout.specs.Shape.{FitsShape}
use Rattle.spv_layout.specs.Stage as stages
use Rattle.spv_ids.specs.Broken as id_rules
use Rattle.spv_capabilities.specs.Keeps as capability_rules
use Rattle.spv_ops.specs.Typed.{IsTyped}
use Rattle.spv_type_rules.specs.Keeps as type_rules
use Rattle.spv_flow.specs.branches.Broken as flow_rules
use Rattle.spv_flow.specs.declared.branches.fork.Fork.TheVariants.{Free}
use Rattle.spv_flow.specs.calls.Broken as call_rules

-- No rule of the stages P, L, D, of C1 to Y8, F but for F4, A and G is broken on the list. Of rules that a check
-- decides by a test the list keeps what they demand. The instructions may be those of any profile.
pub record KeepsRules (G : Table) (bound : ℕ) (is : List PlainInst) : Type 0 where
  pub fits : (n : ℕ) (i : PlainInst) → slice_get is n ≡ Some i → FitsShape G i
  pub layout : IsLayout (classes is)
  pub ids : IsUnbroken (id_rules.Broken G bound is) stages.of_ids
  pub capabilities : (r : Rule) (n : ℕ) (i : PlainInst) → slice_get is n ≡ Some i
      → capability_rules.Keeps G is r n i
  pub types : (r : Rule) (n : ℕ) (i : PlainInst) → slice_get is n ≡ Some i
      → type_rules.Keeps (IsTyped G is) is r n i
  pub branches : IsUnbroken (flow_rules.Broken Free G is) stages.of_branches
  pub values : IsUnbroken (flow_rules.Broken Free G is) stages.of_values
  pub calls : IsUnbroken (call_rules.Broken is) stages.of_calls
