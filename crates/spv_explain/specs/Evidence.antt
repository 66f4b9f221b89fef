-- What shows that a rule is broken at an instruction, whatever rule it is. (Own.)
use Rattle.std.specs.Prelude.{ℕ, List, IsTrue}
use Rattle.spv_table.specs.Table.{Table}
use Rattle.spv_module.specs.Operand.{PlainInst}
use Rattle.spv_module.specs.declared.fault.Rule.{Rule}
use Rattle.spv_extended.specs.declared.reach.Reach.{Reach}
use Rattle.spv_extended.specs.Reach.{opens, profile_of}
use Rattle.spv_check.specs.Fork.{fork_of}
use Rattle.spv_evidence.specs.declared.evidence.Evidence.{Evidence}
use Rattle.spv_form_evidence.specs.layout.Evidence as layout
use Rattle.spv_form_evidence.specs.ids.Evidence as ids
use Rattle.spv_form_evidence.specs.ids.Roles as roles
use Rattle.spv_flow_evidence.specs.branches.Evidence as branches
use Rattle.spv_flow_evidence.specs.walks.Evidence as walks
use Rattle.spv_flow_evidence.specs.calls.Evidence as calls
use Rattle.spv_form_evidence.specs.capabilities.Evidence as capabilities
use Rattle.spv_form_evidence.specs.extended.Evidence as extended
use Rattle.spv_type_evidence.specs.types.Evidence as types
use Rattle.spv_operation_evidence.specs.Evidence as operations
use Rattle.spv_std_types.specs.Broken.{asks_types}
use Rattle.spv_explain.specs.Mistyped as mistyped
use Rattle.spv_explain.specs.Standard as standard

-- Of a list that is looked at so far, under the bound of ids, this shows that the rule is broken at the instruction of
-- that number.
pub data IsEvidence (G : Table) (reach : Reach) (bound : ℕ) (is : List PlainInst) : Rule → ℕ → Evidence → Type 0 where
  -- P and L
  of_layout : (r : Rule) (n : ℕ) (e : Evidence) → layout.IsEvidence (profile_of reach) G is r n e
      → IsEvidence G reach bound is r n e
  -- D
  of_ids : (r : Rule) (n : ℕ) (e : Evidence) → ids.IsEvidence G bound is r n e → IsEvidence G reach bound is r n e
  -- Y1
  of_roles : (r : Rule) (n : ℕ) (e : Evidence) → roles.IsEvidence G is r n e → IsEvidence G reach bound is r n e
  -- C1, C2, M1, E1 and E2
  of_capabilities : (r : Rule) (n : ℕ) (e : Evidence) → capabilities.IsEvidence G is r n e
      → IsEvidence G reach bound is r n e
  -- Y2 to Y4 and Y6 to Y8
  of_types : (r : Rule) (n : ℕ) (e : Evidence) → types.IsEvidence G is r n e → IsEvidence G reach bound is r n e
  -- Y5
  of_operations : (r : Rule) (n : ℕ) (e : Evidence) → operations.IsEvidence G is r n e
      → IsEvidence G reach bound is r n e
  -- F
  of_branches : (r : Rule) (n : ℕ) (e : Evidence) → branches.IsEvidence (fork_of reach) G is r n e
      → IsEvidence G reach bound is r n e
  -- A
  of_walks : (r : Rule) (n : ℕ) (e : Evidence) → walks.IsEvidence G is r n e → IsEvidence G reach bound is r n e
  -- G
  of_calls : (r : Rule) (n : ℕ) (e : Evidence) → calls.IsEvidence is r n e → IsEvidence G reach bound is r n e
  -- Y9
  of_extended : (r : Rule) (n : ℕ) (e : Evidence) → IsTrue (opens reach) → extended.IsEvidence is r n e
      → IsEvidence G reach bound is r n e
  -- Y10
  of_std_types : (r : Rule) (n : ℕ) (e : Evidence) → IsTrue (asks_types reach) → mistyped.IsEvidence is r n e
      → IsEvidence G reach bound is r n e
  -- O
  of_standard : (r : Rule) (n : ℕ) (e : Evidence) → standard.IsEvidence G reach is r n e
      → IsEvidence G reach bound is r n e
