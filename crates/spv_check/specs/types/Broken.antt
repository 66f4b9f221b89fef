-- Which rules of roles, capabilities, entry points and types are broken, and where. (Own.)
use Rattle.std.specs.Prelude.{◌≡◌, ℕ, List, Some, slice_get}
use Rattle.spv_table.specs.Table.{Table}
use Rattle.spv_module.specs.Operand.{PlainInst}
use Rattle.spv_module.specs.declared.fault.Rule.{Rule}
use Rattle.spv_type_rules.specs.roles.Broken as roles
use Rattle.spv_capabilities.specs.Keeps as capabilities
use Rattle.spv_ops.specs.Typed.{IsTyped}
use Rattle.spv_type_rules.specs.Keeps as types

-- The rule is broken at the instruction of that number. [own]
pub data Broken (G : Table) (is : List PlainInst) : Rule → ℕ → Type 0 where
  -- Y1: a use that is not in its role
  of_roles : (r : Rule) (n : ℕ) → roles.Broken G is r n → Broken G is r n
  -- C1, C2, M1, E1 or E2: the instruction does not keep what the rule demands of it
  of_capabilities : (r : Rule) (n : ℕ) (i : PlainInst) → slice_get is n ≡ Some i
      → ¬ (capabilities.Keeps G is r n i) → Broken G is r n
  -- Y2 to Y8: the instruction does not keep what the rule demands of it
  of_types : (r : Rule) (n : ℕ) (i : PlainInst) → slice_get is n ≡ Some i → ¬ (types.Keeps (IsTyped G is) is r n i)
      → Broken G is r n
