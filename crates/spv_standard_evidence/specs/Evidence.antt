-- What shows that one of the rules O1 to O23 is broken. [own]
use Rattle.std.specs.Prelude.{ℕ, List}
use Rattle.spv_table.specs.Table.{Table}
use Rattle.spv_module.specs.Operand.{PlainInst}
use Rattle.spv_module.specs.declared.fault.Rule.{Rule}
use Rattle.spv_evidence.specs.declared.evidence.Evidence.{Evidence}
use Rattle.spv_standard_evidence.specs.Operands as operands
use Rattle.spv_standard_evidence.specs.Declarations as declarations
use Rattle.spv_standard_evidence.specs.Order as order
use Rattle.spv_standard_evidence.specs.Versions as versions
use Rattle.spv_standard_evidence.specs.Limits as limits
use Rattle.spv_standard_evidence.specs.Interfaces as interfaces

-- In a module of version 1.minor it shows that the rule is broken at the instruction of that number.
pub data IsEvidence (G : Table) (minor : ℕ) (is : List PlainInst) : Rule → ℕ → Evidence → Type 0 where
  -- O1, O2
  of_order : (r : Rule) (n : ℕ) (e : Evidence) → order.IsEvidence G is r n e → IsEvidence G minor is r n e
  -- O4
  of_interfaces : (r : Rule) (n : ℕ) (e : Evidence) → interfaces.IsEvidence G minor is r n e
      → IsEvidence G minor is r n e
  -- O3, O5 to O13
  of_declarations : (r : Rule) (n : ℕ) (e : Evidence) → declarations.IsEvidence G is r n e
      → IsEvidence G minor is r n e
  -- O14 to O20, O23
  of_operands : (r : Rule) (n : ℕ) (e : Evidence) → operands.IsEvidence G is r n e → IsEvidence G minor is r n e
  -- O21
  of_versions : (r : Rule) (n : ℕ) (e : Evidence) → versions.IsEvidence G minor is r n e
      → IsEvidence G minor is r n e
  -- O22
  of_limits : (r : Rule) (n : ℕ) (e : Evidence) → limits.IsEvidence is r n e → IsEvidence G minor is r n e
