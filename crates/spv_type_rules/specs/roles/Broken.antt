-- Y1: which uses are not in their role, and where. [2.16]
use Rattle.std.specs.Prelude.{ℕ, List}
use Rattle.spv_table.specs.Table.{Table}
use Rattle.spv_module.specs.Operand.{PlainInst}
use Rattle.spv_module.specs.declared.fault.Rule.{Rule}
use Rattle.spv_module.specs.declared.fault.Rule.TheVariants.{Y1}
use Rattle.spv_layout.specs.declared.form.Role.{Role}
use Rattle.spv_ids.specs.Definition.{IsUsedAt}
use Rattle.spv_type_rules.specs.roles.Role.{Plays}

-- The rule is broken at the instruction of that number. [own]
pub data Broken (G : Table) (is : List PlainInst) : Rule → ℕ → Type 0 where
  -- a use of an id that does not play the role that the shape asks for
  miscast : (n k x : ℕ) (r : Role) → IsUsedAt G is n k x r → ¬ (Plays is r x) → Broken G is Y1 n
