-- What shows that Y1 is broken at an instruction: a use that is not in its role. [2.16]
use Rattle.std.specs.Prelude.{ℕ, List}
use Rattle.spv_table.specs.Table.{Table}
use Rattle.spv_module.specs.Operand.{PlainInst}
use Rattle.spv_module.specs.declared.fault.Rule.{Rule}
use Rattle.spv_module.specs.declared.fault.Rule.TheVariants.{Y1}
use Rattle.spv_layout.specs.declared.form.Role.{Role}
use Rattle.spv_ids.specs.Definition.{IsDefinedAt, IsUsedAt}
use Rattle.spv_type_rules.specs.roles.Role.{Plays}
use Rattle.spv_evidence.specs.declared.evidence.Evidence.{Evidence}
use Rattle.spv_evidence.specs.declared.evidence.Evidence.TheVariants.{Miscast}

-- It shows that the rule is broken at the instruction of that number.
pub data IsEvidence (G : Table) (is : List PlainInst) : Rule → ℕ → Evidence → Type 0 where
  -- operand k is a use of an id in a role that it does not play, and instruction m defines the id
  miscast : (n k x m : ℕ) (r : Role) → IsUsedAt G is n k x r → ¬ (Plays is r x) → IsDefinedAt is x m
      → IsEvidence G is Y1 n (Miscast k r m)
