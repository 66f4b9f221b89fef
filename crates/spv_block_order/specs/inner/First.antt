-- The first instruction at which something is so. (For the code alone.)
use Rattle.std.specs.Prelude.{◌≡◌, ◌<◌, ◌≤◌, ◌⊎◌, ℕ, List, Option, MatchOption}
use Rattle.spv_table.specs.Table.{Table}
use Rattle.spv_module.specs.Operand.{PlainInst}
use Rattle.spv_module.specs.declared.fault.Rule.{Rule}
use Rattle.spv_layout.specs.Stage.{of_standard}
use Rattle.spv_layout.specs.First.{rank_of, IsFirst, IsUnbroken}
use Rattle.spv_layout.specs.Place.{IsOfFunction}
use Rattle.spv_block_order.specs.declared.faults.Found.{Found}
use Rattle.spv_block_order.specs.Broken.{Broken}
use Rattle.spv_block_order.specs.Early.{IsEarlyIn, IsEarlyUse}

-- P holds of this number and of no lower one; or of none.
abbrev pub IsFirstOf : (ℕ → Type 0) → Option ℕ → Type 0
IsFirstOf P o = MatchOption o ((n : ℕ) → ¬ (P n)) (λ n. P n × ((m : ℕ) → m < n → ¬ (P m)))

-- the first block of a function that stands early
abbrev pub IsFirstIn : Table → List PlainInst → ℕ → Option ℕ → Type 0
IsFirstIn G is f o = IsFirstOf (IsEarlyIn G is f) o

-- the first use before its definition, of the instructions from one on and below another
abbrev pub IsFirstUse : Table → List PlainInst → ℕ → ℕ → Option ℕ → Type 0
IsFirstUse G is from limit o = IsFirstOf (λ n. (from ≤ n) × (n < limit) × IsEarlyUse G is n) o

-- The rule is the first that is broken at an instruction of the function.
pub record IsFoundIn (G : Table) (is : List PlainInst) (f : ℕ) (x : Found) : Type 0 where
  pub broken : Broken G is x.rule x.inst
  pub of : IsOfFunction is x.inst f
  pub least : (q : Rule) (m : ℕ) → IsOfFunction is m f → Broken G is q m
      → (x.inst < m) ⊎ ((x.inst ≡ m) × (rank_of x.rule ≤ rank_of q))

-- It is, or none is broken there; and of all instructions.
abbrev pub IsFoundFirst : Table → List PlainInst → ℕ → Option Found → Type 0
IsFoundFirst G is f o =
    MatchOption o ((q : Rule) (m : ℕ) → IsOfFunction is m f → ¬ (Broken G is q m)) (λ x. IsFoundIn G is f x)

abbrev pub IsFirstFound : Table → List PlainInst → Option Found → Type 0
IsFirstFound G is o =
    MatchOption o (IsUnbroken (Broken G is) of_standard) (λ x. IsFirst (Broken G is) of_standard x.rule x.inst)

-- Block n of the function stands early, and h is a higher one that is on the way to it; in some function.
abbrev pub IsEarlyBy : Table → List PlainInst → ℕ → ℕ → ℕ → Type 0
IsEarlyBy G is f n h = (e : IsEarlyIn G is f n) × (e.block ≡ h)

abbrev pub IsEarlyBlockBy : Table → List PlainInst → ℕ → ℕ → Type 0
IsEarlyBlockBy G is n h = (f : ℕ) × IsEarlyBy G is f n h
