-- Walks that come to an instruction by lower ones alone. (For the code alone.)
use Rattle.std.specs.Prelude.{◌≡◌, ◌<◌, ◌≤◌, ◌⊎◌, ℕ, List, [], ◌∷◌, true, false, Contains, slice_index}
use Rattle.spv_table.specs.Table.{Table}
use Rattle.spv_module.specs.Operand.{PlainInst}
use Rattle.spv_module.specs.declared.fault.Rule.{Rule}
use Rattle.spv_layout.specs.declared.class.Class.TheVariants.{Label}
use Rattle.spv_layout.specs.Place.{IsAt, IsOfFunction, terminators}
use Rattle.spv_flow.specs.branches.Walk.{Next, IsWalk}
use Rattle.spv_flow.specs.branches.Ready.{IsMissing}
use Rattle.spv_flow.specs.declared.walks.code.Code.{Code}
use Rattle.spv_flow.specs.walks.inner.Code.{insts_of, IsCode}
use Rattle.spv_block_order.specs.declared.rise.Rising.{Rising}
use Rattle.spv_block_order.specs.Broken.{Broken}

-- What is known of the code, and that each walk to an instruction defines what it uses.
pub record IsSound (G : Table) (c : Code) : Type 0 where
  pub code : IsCode G c
  pub ready : (n : ℕ) → ¬ (IsMissing G (insts_of c) n)

-- Neither rule is broken at the instruction.
abbrev pub IsLate : Table → List PlainInst → ℕ → Type 0
IsLate G is n = (r : Rule) → ¬ (Broken G is r n)

-- A walk of the function comes to instruction n by lower ones alone; or would, if the instruction is of the function.
pub record HasRise (G : Table) (is : List PlainInst) (f n : ℕ) : Type 0 where
  pub past : List ℕ
  pub walk : IsWalk G is f past n
  pub low : (k : ℕ) → Contains past k → k < n

abbrev pub WouldRise : Table → List PlainInst → ℕ → ℕ → Type 0
WouldRise G is f n = IsOfFunction is n f → HasRise G is f n

-- Some terminator stands before instruction n, and no OpLabel in between.
pub record IsShut (is : List PlainInst) (n : ℕ) : Type 0 where
  pub end : ℕ
  pub before : end < n
  pub there : IsAt is end terminators
  pub none : (k : ℕ) → end < k → k < n → ¬ (IsAt is k (Label ∷ []))

-- What was marked, and only that, got the number of an instruction, after which it may come.
abbrev pub AreMarked : Code → ℕ → List ℕ → List ℕ → Type 0
AreMarked c at old new = (m : ℕ) → (slice_index new m ≡ slice_index old m)
    ⊎ ((slice_index new m ≡ at) × (at < m) × ((G : Table) → IsCode G c → Next G (insts_of c) at m))

-- no mark is greater than the number
abbrev pub AreUpTo : List ℕ → ℕ → Type 0
AreUpTo marks n = (m : ℕ) → slice_index marks m ≤ n

-- What is known of the function up to instruction n: where it is marked as live, a walk would go on there; where it is
-- marked as whole, neither rule is broken at an instruction before, and a walk that does not go on has ended.
pub record AreRisen (c : Code) (f n : ℕ) (r : Rising) (marks : List ℕ) : Type 0 where
  pub up_to : AreUpTo marks n
  pub marked : (m : ℕ) → f < slice_index marks m → (G : Table) → IsCode G c → WouldRise G (insts_of c) f m
  pub next : r.live ≡ true → (G : Table) → IsCode G c → WouldRise G (insts_of c) f n
  pub shut : r.live ≡ false → r.whole ≡ true → IsShut (insts_of c) n
  pub late : r.whole ≡ true → (G : Table) → IsSound G c → (m : ℕ) → f ≤ m → m < n → IsLate G (insts_of c) m
