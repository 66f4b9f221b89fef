-- What shows that one of the rules F is broken at an instruction. A block goes by the number of its OpLabel. [2.4,
-- 2.16]
use Rattle.std.specs.Prelude.{◌≡◌, ◌<◌, ◌⊎◌, ◌↔◌, ℕ, List}
use Rattle.std.specs.List.{Contains}
use Rattle.std.specs.List.Sorted.{IsStrictlyIncreasing}
use Rattle.spv_table.specs.Table.{Table}
use Rattle.spv_module.specs.Operand.{PlainInst}
use Rattle.spv_module.specs.declared.fault.Rule.{Rule}
use Rattle.spv_module.specs.declared.fault.Rule.TheVariants.{F1, F2, F3, F4}
use Rattle.spv_layout.specs.declared.form.Role.TheVariants.{Label}
use Rattle.spv_layout.specs.Place.{IsOfBlock}
use Rattle.spv_ids.specs.Definition.{IsDefinedAt, IsUsedAt}
use Rattle.spv_flow.specs.declared.branches.fork.Fork.{Fork}
use Rattle.spv_flow.specs.declared.branches.fork.Fork.TheVariants.{Distinct}
use Rattle.spv_flow.specs.branches.Target.{is_phi, is_merge, is_branch, is_conditional, IsOp}
use Rattle.spv_flow.specs.branches.Target.{IsLabelOf, IsPredecessor, IsParentAt, IsEntryLabel}
use Rattle.spv_evidence.specs.declared.evidence.Evidence.{Evidence}
use Rattle.spv_evidence.specs.declared.evidence.Evidence.TheVariants.{Operand, Defined}
use Rattle.spv_evidence.specs.declared.evidence.Evidence.TheVariants.{MissingParent, NoPredecessor, Twice}

-- These are the predecessors of block b, in order and each once. [2.16]
pub record ArePredecessors (G : Table) (is : List PlainInst) (b : ℕ) (ps : List ℕ) : Type 0 where
  pub order : IsStrictlyIncreasing ps
  pub each : (p : ℕ) → Contains ps p ↔ IsPredecessor G is b p

-- The evidence shows that the rule is broken at the instruction of that number, where so much is asked of the labels of
-- an OpBranchConditional.
pub data IsEvidence (fork : Fork) (G : Table) (is : List PlainInst) : Rule → ℕ → Evidence → Type 0 where
  -- an operand of a terminator or a merge that is a label of no OpLabel, and the instruction that defines its id
  no_label : (n k x m : ℕ) → IsOp is n is_branch ⊎ IsOp is n is_merge → IsUsedAt G is n k x Label
      → IsDefinedAt is x m
      → ((l : ℕ) → ¬ (IsLabelOf is x l)) → IsEvidence fork G is F1 n (Defined k m)
  -- an operand of a terminator that is the label of an entry block
  to_entry : (n k x m : ℕ) → IsOp is n is_branch → IsUsedAt G is n k x Label → IsDefinedAt is x m
      → IsEntryLabel is m
      → IsEvidence fork G is F2 n (Operand k)
  -- a predecessor of the block of an OpPhi that no operand names, and all predecessors of that block
  missing_parent : (n b p : ℕ) (ps : List ℕ) → IsOp is n is_phi → IsOfBlock is n b → IsPredecessor G is b p
      → ((k : ℕ) → ¬ (IsParentAt G is n k p)) → ArePredecessors G is b ps
      → IsEvidence fork G is F3 n (MissingParent p ps)
  -- an operand of an OpPhi that is a label of no OpLabel, or of no predecessor of the OpPhi's block, and all
  -- predecessors of that block
  no_predecessor : (n b k x : ℕ) (ps : List ℕ) → IsOp is n is_phi → IsOfBlock is n b → IsUsedAt G is n k x Label
      → ((p : ℕ) → IsLabelOf is x p → ¬ (IsPredecessor G is b p)) → ArePredecessors G is b ps
      → IsEvidence fork G is F3 n (NoPredecessor k ps)
  -- two operands of an OpPhi that name the same block, and all predecessors of the OpPhi's block
  twice : (n b j k p : ℕ) (ps : List ℕ) → IsOp is n is_phi → IsOfBlock is n b → j < k → IsParentAt G is n j p
      → IsParentAt G is n k p → ArePredecessors G is b ps
      → IsEvidence fork G is F3 n (Twice j k ps)
  -- operand 2 of an OpBranchConditional, the same label as operand 1, where they may not be the same
  same_labels : (n x : ℕ) → fork ≡ Distinct → IsOp is n is_conditional → IsUsedAt G is n 1 x Label
      → IsUsedAt G is n 2 x Label → IsEvidence fork G is F4 n (Operand 2)
