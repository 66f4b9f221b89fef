-- What is known of the labels of an instruction, as far as they were looked at. (For the code alone.)
use Rattle.std.specs.Prelude.{◌≡◌, ◌<◌, ℕ, List, Bool, true, Option, Some, None, filter, slice_index_or}
use Rattle.std.specs.List.{range_with_len}
use Rattle.spv_table.specs.Table.{Table}
use Rattle.spv_module.specs.Operand.{PlainInst}
use Rattle.spv_layout.specs.declared.form.Role.TheVariants.{Label}
use Rattle.spv_ids.specs.Definition.{IsDefinedAt, IsUsedAt}
use Rattle.spv_flow.specs.branches.inner.Edges.{marked}
use Rattle.spv_flow.specs.branches.Target.{IsLabelOf, IsPredecessor, IsParentAt, IsEntryLabel}
use Rattle.spv_evidence.specs.declared.evidence.Evidence.{Evidence}
use Rattle.spv_evidence.specs.declared.evidence.Evidence.TheVariants as evidence
use Rattle.spv_flow_evidence.specs.declared.branches.parents.WrongPair.{WrongPair}
use Rattle.spv_flow_evidence.specs.declared.branches.parents.WrongPair.TheVariants as pair

-- Some instruction defines each label of instruction n.
pub record KeepsDefinitions (G : Table) (is : List PlainInst) (n : ℕ) : Type 0 where
  pub each : (k x : ℕ) → IsUsedAt G is n k x Label → ¬ ((m : ℕ) → ¬ (IsDefinedAt is x m))

-- The id is the label of an entry block.
pub record IsEntryId (is : List PlainInst) (x : ℕ) : Type 0 where
  pub place : ℕ
  pub defined : IsDefinedAt is x place
  pub entry : IsEntryLabel is place

-- The marks are those of the predecessors of a block.
pub record AreMarks (G : Table) (is : List PlainInst) (block : ℕ) (marks : List Bool) : Type 0 where
  pub sound : (p : ℕ) → marked marks p ≡ true → IsPredecessor G is block p
  pub complete : (p : ℕ) → IsPredecessor G is block p → marked marks p ≡ true

-- the marked blocks below n, in order
unfoldable pub marked_below : List Bool → ℕ → List ℕ
marked_below marks n = filter (marked marks) (range_with_len 0 n)

-- a wrong pair as evidence, with the predecessors
abbrev pub told : WrongPair → List ℕ → Evidence
told (pair.NoPredecessor k) ps = evidence.NoPredecessor k ps
told (pair.Twice j k) ps = evidence.Twice j k ps

-- the operand that names a block, if one was found
abbrev pub name_of : List (Option ℕ) → ℕ → Option ℕ
name_of names p = slice_index_or names p None

-- The labels among the first operands are of marked blocks, each block once: the names have which operand names it.
pub record AreNames (G : Table) (is : List PlainInst) (at : ℕ) (marks : List Bool) (names : List (Option ℕ))
    (n : ℕ)
    : Type 0 where
  pub each : (k x : ℕ) → k < n → IsUsedAt G is at k x Label → (p : ℕ) × IsLabelOf is x p
      × (marked marks p ≡ true)
  pub sound : (k p : ℕ) → name_of names p ≡ Some k → (k < n) × IsParentAt G is at k p
  pub complete : (k p : ℕ) → k < n → IsParentAt G is at k p → name_of names p ≡ Some k

-- The same of all operands.
pub record HasNames (G : Table) (is : List PlainInst) (at : ℕ) (marks : List Bool) (names : List (Option ℕ))
    : Type 0 where
  pub each : (k x : ℕ) → IsUsedAt G is at k x Label → (p : ℕ) × IsLabelOf is x p × (marked marks p ≡ true)
  pub sound : (k p : ℕ) → name_of names p ≡ Some k → IsParentAt G is at k p
  pub complete : (k p : ℕ) → IsParentAt G is at k p → name_of names p ≡ Some k
