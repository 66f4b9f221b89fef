-- Which rules on flow and availability are broken, and where. [2.4, 2.16]
use Rattle.std.specs.Prelude.{◌≡◌, ◌⊎◌, ℕ, List, nat_le, ◌&&◌}
use Rattle.spv_module.specs.declared.opcode.TheConstants as opcode
use Rattle.spv_table.specs.Table.{Table}
use Rattle.spv_module.specs.Operand.{PlainInst}
use Rattle.spv_module.specs.declared.fault.Rule.{Rule}
use Rattle.spv_module.specs.declared.fault.Rule.TheVariants.{F1, F2, F3, F4, A1, A2}
use Rattle.spv_layout.specs.declared.form.Role.TheVariants.{Label}
use Rattle.spv_ids.specs.Definition.{IsDefinedAt, IsUsedAt}
use Rattle.spv_flow.specs.declared.branches.fork.Fork.{Fork}
use Rattle.spv_flow.specs.declared.branches.fork.Fork.TheVariants.{Distinct}
use Rattle.spv_flow.specs.branches.Target.{is_opcode, is_branch, IsOp, IsLabelOf, IsTarget}
use Rattle.spv_flow.specs.branches.Target.{HasParents, IsEntryLabel}
use Rattle.spv_flow.specs.branches.Ready.{IsMissing, IsPairMissing}

-- The rule is broken at the instruction of that number, where so much is asked of the labels of an OpBranchConditional.
-- [own]
pub data Broken (fork : Fork) (G : Table) (is : List PlainInst) : Rule → ℕ → Type 0 where
  -- a label of a terminator, or of a merge (OpLoopMerge, 246, or OpSelectionMerge, 247), that is no OpLabel
  no_label : (n k x : ℕ) → IsOp is n is_branch
      ⊎ IsOp is n (λ code. nat_le opcode.LOOP_MERGE code && nat_le code opcode.SELECTION_MERGE)
      → IsUsedAt G is n k x Label → ((m : ℕ) → ¬ (IsLabelOf is x m)) → Broken fork G is F1 n
  -- a target that is the label of an entry block
  to_entry : (n x m : ℕ) → IsTarget G is n x → IsDefinedAt is x m → IsEntryLabel is m → Broken fork G is F2 n
  -- an OpPhi (245) whose parents are not the predecessors of its block, each exactly once
  parents : (n : ℕ) → IsOp is n (is_opcode opcode.PHI) → ¬ (HasParents G is n) → Broken fork G is F3 n
  -- an OpBranchConditional (250) whose two labels are the same, where they may not be
  same_labels : (n x : ℕ) → fork ≡ Distinct → IsOp is n (is_opcode opcode.BRANCH_CONDITIONAL)
      → IsUsedAt G is n 1 x Label
      → IsUsedAt G is n 2 x Label
      → Broken fork G is F4 n
  -- a use of a local value that a walk misses
  missing : (n : ℕ) → IsMissing G is n → Broken fork G is A1 n
  -- a pair whose value a walk misses
  pair_missing : (n : ℕ) → IsPairMissing G is n → Broken fork G is A2 n
