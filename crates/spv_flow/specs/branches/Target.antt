-- The labels of branches and merges, and the blocks that they lead to. A block goes by the number of its OpLabel. [2.4,
-- 2.16]
use Rattle.std.specs.Prelude.{◌≡◌, ◌<◌, ℕ, List, Bool, nat_eq, nat_le, ◌&&◌, IsTrue}
use Rattle.std.specs.Prelude.{IsSomeAnd, slice_get}
use Rattle.spv_module.specs.declared.opcode.TheConstants as opcode
use Rattle.spv_table.specs.Table.{Table}
use Rattle.spv_module.specs.Operand.{PlainInst}
use Rattle.spv_layout.specs.declared.form.Role.TheVariants.{Label}
use Rattle.spv_layout.specs.Place.{IsOfBlock}
use Rattle.spv_ids.specs.Definition.{IsDefinedAt, IsUsedAt}

-- an opcode is that number [3.49.17]
abbrev pub is_opcode : ℕ → ℕ → Bool
is_opcode n code = nat_eq code n

-- OpPhi [3.49.17]
abbrev pub is_phi : ℕ → Bool
is_phi code = nat_eq code opcode.PHI

-- OpLabel [3.49.17]
abbrev pub is_label : ℕ → Bool
is_label code = nat_eq code opcode.LABEL

-- OpBranchConditional [3.49.17]
abbrev pub is_conditional : ℕ → Bool
is_conditional code = nat_eq code opcode.BRANCH_CONDITIONAL

-- those of OpLoopMerge and OpSelectionMerge [3.49.17]
abbrev pub is_merge : ℕ → Bool
is_merge code = nat_le opcode.LOOP_MERGE code && nat_le code opcode.SELECTION_MERGE

-- those of the terminators with labels: OpBranch, OpBranchConditional and OpSwitch [3.49.17]
abbrev pub is_branch : ℕ → Bool
is_branch code = nat_le opcode.BRANCH code && nat_le code opcode.SWITCH

-- Instruction n is there, and the test holds of its opcode. [3.49.17]
abbrev pub IsOp : List PlainInst → ℕ → (ℕ → Bool) → Type 0
IsOp is n test = IsSomeAnd (slice_get is n) (λ i. IsTrue (test i.opcode))

-- The id x is the result of the OpLabel (248) m. [3.49.17]
pub record IsLabelOf (is : List PlainInst) (x m : ℕ) : Type 0 where
  pub defined : IsDefinedAt is x m
  pub label : IsOp is m (is_opcode opcode.LABEL)

-- The id x is a target of instruction n: a label of a terminator. [2.4]
pub record IsTarget (G : Table) (is : List PlainInst) (n x : ℕ) : Type 0 where
  pub branch : IsOp is n is_branch
  pub operand : ℕ
  pub used : IsUsedAt G is n operand x Label

-- Terminator t leads from block p to block b: it is of p, and b's label is a target of it. [3.49.17]
pub record LeadsToBlock (G : Table) (is : List PlainInst) (t p b : ℕ) : Type 0 where
  pub of : IsOfBlock is t p
  pub id : ℕ
  pub target : IsTarget G is t id
  pub label : IsLabelOf is id b

-- Block p is a predecessor of block b. [2.16]
abbrev pub IsPredecessor : Table → List PlainInst → ℕ → ℕ → Type 0
IsPredecessor G is b p = (t : ℕ) × LeadsToBlock G is t p b

-- Block p is the parent that operand k of instruction n, an OpPhi, names. [3.49.17]
pub record IsParentAt (G : Table) (is : List PlainInst) (n k p : ℕ) : Type 0 where
  pub id : ℕ
  pub used : IsUsedAt G is n k id Label
  pub label : IsLabelOf is id p

-- The parents of instruction n, an OpPhi, are the predecessors of its block, each exactly once. [3.49.17]
pub record HasParents (G : Table) (is : List PlainInst) (n : ℕ) : Type 0 where
  pub block : ℕ
  pub of : IsOfBlock is n block
  -- each parent is a predecessor
  pub each : (k x : ℕ) → IsUsedAt G is n k x Label → (p : ℕ) × IsLabelOf is x p × IsPredecessor G is block p
  -- no block is named twice
  pub once : (j k p : ℕ) → IsParentAt G is n j p → IsParentAt G is n k p → j ≡ k
  -- each predecessor is a parent
  pub all : (p : ℕ) → IsPredecessor G is block p → (k : ℕ) × IsParentAt G is n k p

-- Instruction m is the label of an entry block: of the OpLabels (248) after an OpFunction (54) the first. [3.49.17]
pub record IsEntryLabel (is : List PlainInst) (m : ℕ) : Type 0 where
  pub label : IsOp is m (is_opcode opcode.LABEL)
  pub function : ℕ
  pub there : IsOp is function (is_opcode opcode.FUNCTION)
  pub after : function < m
  pub first : (k : ℕ) → function < k → k < m → ¬ (IsOp is k (is_opcode opcode.LABEL))
  pub same : (k : ℕ) → function < k → k < m → ¬ (IsOp is k (is_opcode opcode.FUNCTION))
