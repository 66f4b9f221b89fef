-- What is gathered of the branches and the labels of a module. (For the code alone.)
use Rattle.std.specs.Prelude.{◌≡◌, ◌≤◌, ◌<◌, ◌⊎◌, ℕ, List, Bool, true, false, Option}
use Rattle.std.specs.Prelude.{MatchOption}
use Rattle.spv_table.specs.Table.{Table}
use Rattle.spv_module.specs.Operand.{PlainInst}
use Rattle.spv_flow.specs.declared.branches.edges.Edges.{Edges}
use Rattle.spv_flow.specs.declared.branches.faults.Targets.{Targets}
use Rattle.spv_flow.specs.declared.branches.faults.Targets.TheVariants.{Lacking, Entering, Sound}
use Rattle.spv_module.specs.declared.fault.Rule.{Rule}
use Rattle.spv_layout.specs.Stage.{of_branches}
use Rattle.spv_layout.specs.declared.form.Role.TheVariants.{Label}
use Rattle.spv_layout.specs.First.{stage_of, rank_of}
use Rattle.spv_ids.specs.Definition.{IsDefinedAt, IsUsedAt}
use Rattle.spv_flow.specs.declared.branches.fork.Fork.{Fork}
use Rattle.spv_flow.specs.branches.Broken.{Broken}
use Rattle.spv_flow.specs.branches.Target.{is_label, IsOp, LeadsToBlock, IsEntryLabel, IsLabelOf, IsParentAt}
use Rattle.spv_flow.specs.branches.inner.Target.{is_function}
use Rattle.spv_flow.specs.branches.inner.Edges.{HasEdge, marked}

-- the edges got those of one instruction more
pub record AddsTargets (G : Table) (is : List PlainInst) (old new : Edges) (n : ℕ) : Type 0 where
  pub kept : (p b : ℕ) → HasEdge old p b → HasEdge new p b
  pub added : (p b : ℕ) → LeadsToBlock G is n p b → HasEdge new p b
  pub only : (p b : ℕ) → HasEdge new p b → HasEdge old p b ⊎ LeadsToBlock G is n p b

-- The edges are those of the instructions before n.
pub record AreGathered (G : Table) (is : List PlainInst) (e : Edges) (n : ℕ) : Type 0 where
  pub complete : (t p b : ℕ) → t < n → LeadsToBlock G is t p b → HasEdge e p b
  pub sound : (p b : ℕ) → HasEdge e p b → (t : ℕ) × LeadsToBlock G is t p b

-- after an OpFunction, no other and no OpLabel stands before instruction n
pub record IsOpen (is : List PlainInst) (n : ℕ) : Type 0 where
  pub function : ℕ
  pub there : IsOp is function is_function
  pub after : function < n
  pub first : (k : ℕ) → function < k → k < n → ¬ (IsOp is k is_label)
  pub same : (k : ℕ) → function < k → k < n → ¬ (IsOp is k is_function)

-- The marks before n are those of entry labels.
pub record AreEntries (is : List PlainInst) (marks : List Bool) (n : ℕ) : Type 0 where
  pub sound : (m : ℕ) → marked marks m ≡ true → IsEntryLabel is m
  pub complete : (m : ℕ) → m < n → IsEntryLabel is m → marked marks m ≡ true

-- Each label of instruction n is of a marked block, and none is named twice.
pub record CanTake (G : Table) (is : List PlainInst) (n : ℕ) (marks : List Bool) : Type 0 where
  pub each : (k x : ℕ) → IsUsedAt G is n k x Label → (p : ℕ) × IsLabelOf is x p × (marked marks p ≡ true)
  pub once : (j k p : ℕ) → IsParentAt G is n j p → IsParentAt G is n k p → j ≡ k

-- The marks of the blocks that instruction n names were taken.
pub record Takes (G : Table) (is : List PlainInst) (n : ℕ) (old new : List Bool) : Type 0 where
  pub can : CanTake G is n old
  pub left : (p : ℕ) → marked new p ≡ true → marked old p ≡ true
  pub gone : (k p : ℕ) → IsParentAt G is n k p → marked new p ≡ false
  pub kept : (p : ℕ) → marked old p ≡ true → (marked new p ≡ true) ⊎ ((k : ℕ) × IsParentAt G is n k p)

-- Each label of instruction n is of an OpLabel.
abbrev pub HasLabels : Table → List PlainInst → ℕ → Type 0
HasLabels G is n = (k x : ℕ) → IsUsedAt G is n k x Label → (m : ℕ) × IsLabelOf is x m

pub record LacksLabel (G : Table) (is : List PlainInst) (n : ℕ) : Type 0 where
  pub operand : ℕ
  pub id : ℕ
  pub used : IsUsedAt G is n operand id Label
  pub none : (m : ℕ) → ¬ (IsLabelOf is id m)

-- A label of instruction n is that of an entry block.
pub record LeadsToEntry (G : Table) (is : List PlainInst) (n : ℕ) : Type 0 where
  pub operand : ℕ
  pub id : ℕ
  pub used : IsUsedAt G is n operand id Label
  pub place : ℕ
  pub defined : IsDefinedAt is id place
  pub entry : IsEntryLabel is place

-- What is found of the labels of instruction n.
abbrev pub AreTargets : Table → List PlainInst → ℕ → Targets → Type 0
AreTargets G is n Lacking = LacksLabel G is n
AreTargets G is n Entering = HasLabels G is n × LeadsToEntry G is n
AreTargets G is n Sound = HasLabels G is n × ¬ (LeadsToEntry G is n)

-- What is found of one label.
abbrev pub IsTargetOf : List PlainInst → ℕ → Targets → Type 0
IsTargetOf is x Lacking = (m : ℕ) → ¬ (IsLabelOf is x m)
IsTargetOf is x Entering = (m : ℕ) × IsLabelOf is x m × IsEntryLabel is m
IsTargetOf is x Sound = (m : ℕ) × IsLabelOf is x m × ¬ (IsEntryLabel is m)

-- what is found of two labels together
abbrev pub joined : Targets → Targets → Targets
joined Lacking t = Lacking
joined Entering Lacking = Lacking
joined Entering Entering = Entering
joined Entering Sound = Entering
joined Sound t = t

-- Operands j and k of instruction n are the same label.
pub record HasSameLabels (G : Table) (is : List PlainInst) (n j k : ℕ) : Type 0 where
  pub id : ℕ
  pub one : IsUsedAt G is n j id Label
  pub two : IsUsedAt G is n k id Label

-- Of the rules F the first that is broken at instruction n; none where none is.
abbrev pub IsFirstAt : Fork → Table → List PlainInst → ℕ → Option Rule → Type 0
IsFirstAt fork G is n o =
    MatchOption o ((q : Rule) → stage_of q ≡ of_branches → ¬ (Broken fork G is q n))
    (λ r. (stage_of r ≡ of_branches) × Broken fork G is r n
    × ((q : Rule) → stage_of q ≡ of_branches → Broken fork G is q n → rank_of r ≤ rank_of q))
