-- Rules of flow, as far as a run rests on them. [2.2.5, 2.16.1]
use Rattle.std.specs.Prelude.{◌≡◌, ℕ, List, Some, Contains, slice_get}
use Rattle.spv_module.specs.Operand.{PlainInst}
use Rattle.spv_run.specs.Act.{Act, Phi, Pair, act_of}
use Rattle.spv_run.specs.At.{act_at, result_at, value_from}
use Rattle.spv_run.specs.inner.At.{targets}
use Rattle.spv_run.proofs.Place.{IsIn, IsLocal, IsLabel}
use Rattle.spv_run.proofs.Walk.{Walk, Defined, before_label, last_label}
use Rattle.spv_run.specs.Row.{values_of}

-- Rule F1: a target is an OpLabel.
abbrev pub HasLabels : List PlainInst → Type 0
HasLabels is = (n x : ℕ) (a : Act) → act_at is n ≡ Some a → Contains (targets a) x → (m : ℕ) × IsLabel is m x

-- Block p has block b as a target: at its terminator.
pub record IsPredecessor (is : List PlainInst) (p b : ℕ) : Type 0 where
  pub place : ℕ
  pub inside : IsIn is p place
  pub act : Act
  pub there : act_at is place ≡ Some act
  pub label : ℕ
  pub target : Contains (targets act) label
  pub block : IsLabel is b label

-- Rule F3: each predecessor of an OpPhi's block is the parent of a pair.
abbrev pub HasParents : List PlainInst → Type 0
HasParents is = (b n p y : ℕ) (ps : List Pair) → IsIn is b n → act_at is n ≡ Some (Phi ps) → IsPredecessor is p b
    → result_at is p ≡ Some y → (v : ℕ) × (value_from ps y ≡ Some v)

-- On a walk that ends at instruction n, each local value that it uses is the result of an earlier place; an OpPhi uses
-- the value
-- paired with the block that the walk came from, and it is the result of a place before the last OpLabel.
abbrev pub IsReadyOn : List PlainInst → List ℕ → ℕ → PlainInst → Act → Type 0
IsReadyOn is past n i (Phi ps) = (b y v : ℕ) → last_label is (before_label is past n) ≡ Some b → result_at is b ≡ Some y
    → value_from ps y ≡ Some v
    → IsLocal is v → Defined is (before_label is past n) v
IsReadyOn is past n i a = (x : ℕ) → Contains (values_of i a) x → IsLocal is x → Defined is past x

-- Rules A1 and A2: each instruction is ready, on every walk that ends at it. [2.16.1]
abbrev pub IsReady : List PlainInst → Type 0
IsReady is = (f n : ℕ) (past : List ℕ) (i : PlainInst) → Walk is f past n → slice_get is n ≡ Some i
    → IsReadyOn is past n i (act_of i)
