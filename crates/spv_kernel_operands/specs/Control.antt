-- O18: loop controls, and the weights of branches. [3.23, OpBranchConditional]
use Rattle.std.specs.Prelude.{◌≡◌, ◌<◌, ◌⊎◌, ◌+◌, ℕ, List, [], ◌∷◌, Bool, ◌&&◌, ◌||◌, IsTrue, Some, slice_get}
use Rattle.std.specs.Prelude.{if◌then◌else◌}
use Rattle.spv_module.specs.declared.opcode.TheConstants as opcode
use Rattle.spv_module.specs.Operand.{Plain, Id, Word, Mask, PlainInst}
use Rattle.spv_kernel_operands.specs.Value.{has_bit}

-- A mask has two bits of which one speaks against the other: Unroll (1) with DontUnroll (2); DontUnroll with PeelCount
-- (128) or PartialCount (256); DependencyInfinite (4) with DependencyLength (8). [3.23]
abbrev pub has_both : ℕ → ℕ → ℕ → Bool
has_both m a b = has_bit m a && has_bit m b

abbrev pub contradicts : ℕ → Bool
contradicts m = has_both m 1 2 || (has_both m 2 384 || has_both m 4 8)

-- Behind the mask stand the numbers of its bits, the lowest first; of those up to IterationMultiple (64) the bits
-- DependencyLength (8), MinIterations (16) and MaxIterations (32) have one each. So many stand before its own. [3.23]
abbrev pub one_if : Bool → ℕ
one_if b = if b then 1 else 0

abbrev pub numbers_before : ℕ → ℕ
numbers_before m = one_if (has_bit m 8) + one_if (has_bit m 16) + one_if (has_bit m 32)

-- The operands of an OpLoopMerge (246), OpLoopMerge %merge %continue mask .., contradict themselves, or have
-- IterationMultiple with the number 0. [3.23]
abbrev pub HasBadControl : List Plain → Type 0
HasBadControl (Id a ∷ Id b ∷ Mask k m ∷ ns) =
    IsTrue (contradicts m) ⊎ (IsTrue (has_bit m 64) × (slice_get ns (numbers_before m) ≡ Some (Word 0)))
HasBadControl _ = ⊥

-- The operands of an OpBranchConditional (250), OpBranchConditional %c %a %b v w, have two weights whose sum is 0, or
-- over the greatest number of 32 bits. [OpBranchConditional]
abbrev pub HasBadWeights : List Plain → Type 0
HasBadWeights (Id c ∷ Id a ∷ Id b ∷ Word v ∷ Word w ∷ []) = (v + w ≡ 0) ⊎ (4294967295 < v + w)
HasBadWeights _ = ⊥

-- Instruction i breaks O18.
pub data IsMiscontrolled (i : PlainInst) : Type 0 where
  loop : i.opcode ≡ opcode.LOOP_MERGE → HasBadControl i.operands → IsMiscontrolled i
  weights : i.opcode ≡ opcode.BRANCH_CONDITIONAL → HasBadWeights i.operands → IsMiscontrolled i
