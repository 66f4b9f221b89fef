-- Uses that are not in their role. (For the code alone.)
use Rattle.std.specs.Prelude.{ℕ, List}
use Rattle.spv_module.specs.Operand.{PlainInst}
use Rattle.spv_layout.specs.declared.form.Role.{Role}
use Rattle.spv_ids.specs.Definition.{IsDefinedAt}
use Rattle.spv_type_rules.specs.roles.Role.{Plays}

-- The id has a definition and does not play the role.
pub record IsMiscast (is : List PlainInst) (x : ℕ) (r : Role) : Type 0 where
  pub definition : ℕ
  pub defined : IsDefinedAt is x definition
  pub not : ¬ (Plays is r x)
