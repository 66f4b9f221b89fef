-- What `roles_check` answers of a module.
use Rattle.std.specs.Prelude.{◌≡◌, ℕ, List}
use Rattle.spv_table.specs.Table.{Table}
use Rattle.spv_module.specs.Operand.{PlainInst}
use Rattle.spv_module.specs.declared.fault.Fault.{Fault}
use Rattle.spv_layout.specs.declared.form.Role.{Role}
use Rattle.spv_layout.specs.First.{IsFirst}
use Rattle.spv_layout.specs.Place.{first_word_of}
use Rattle.spv_layout.specs.Stage.{of_roles}
use Rattle.spv_ids.specs.Definition.{IsUsedAt}
use Rattle.spv_type_rules.specs.roles.Role.{Plays}
use Rattle.spv_type_rules.specs.roles.Broken.{Broken}

-- Each id that is used plays the role that the shape asks for. [own]
pub record AreInRole (G : Table) (is : List PlainInst) : Type 0 where
  pub each : (n k x : ℕ) (r : Role) → IsUsedAt G is n k x r → Plays is r x

-- What a refusal says: the first broken rule on roles, which is Y1, and the first word of its instruction.
pub record IsRefusal (G : Table) (is : List PlainInst) (f : Fault) : Type 0 where
  pub first : IsFirst (Broken G is) of_roles f.rule f.inst
  pub word : f.word ≡ first_word_of is f.inst
