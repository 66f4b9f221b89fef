-- The parts of O14, of the operands of one instruction. (For the code alone.)
use Rattle.std.specs.Prelude.{◌≡◌, ◌≢◌, ◌<◌, ◌⊎◌, ℕ, List, Some, false, IsTrue, Contains, slice_get}
use Rattle.spv_module.specs.declared.opcode.TheConstants as opcode
use Rattle.spv_module.specs.Operand.{Plain, PlainInst}
use Rattle.spv_kernel_operands.specs.Value.{value_at, has_bit}
use Rattle.spv_kernel_operands.specs.Scopes.{HasOneOrder, IsTooStrong, foreign, orders}

-- One of these operands has a value, and P holds of that. (Of those of the seats, from 0.)
pub record HasValue (P : ℕ → Type 0) (is : List PlainInst) (os : List Plain) (seats : List ℕ) : Type 0 where
  pub seat : ℕ
  pub among : Contains seats seat
  pub number : ℕ
  pub value : value_at is os seat ≡ Some number
  pub holds : P number

abbrev pub HasHighScope : List PlainInst → List Plain → List ℕ → Type 0
HasHighScope is os seats = HasValue (λ n. 4 < n) is os seats

abbrev pub AreBadSemantics : ℕ → Type 0
AreBadSemantics n = ¬ (HasOneOrder n) ⊎ IsTrue (has_bit n foreign)

abbrev pub HasBadSemantics : List PlainInst → List Plain → List ℕ → Type 0
HasBadSemantics is os seats = HasValue AreBadSemantics is os seats

-- The first of these operands has a value that is neither Workgroup nor Subgroup.
pub record IsNoGroup (is : List PlainInst) (os : List Plain) (seats : List ℕ) : Type 0 where
  pub seat : ℕ
  pub first : slice_get seats 0 ≡ Some seat
  pub number : ℕ
  pub value : value_at is os seat ≡ Some number
  pub workgroup : number ≢ 2
  pub subgroup : number ≢ 3

-- semantics n that are SequentiallyConsistent where m are not; that are Acquire where m have no order
abbrev pub IsNewlySequential : ℕ → ℕ → Type 0
IsNewlySequential m n = IsTrue (has_bit n 16) × (has_bit m 16 ≡ false)

abbrev pub IsNewlyAcquiring : ℕ → ℕ → Type 0
IsNewlyAcquiring m n = IsTrue (has_bit n 2) × (orders m ≡ 0)

-- what is asked of OpAtomicCompareExchange and OpAtomicFlagClear alone
abbrev pub HasOwnBadSemantics : List PlainInst → PlainInst → Type 0
HasOwnBadSemantics is i =
    ((i.opcode ≡ opcode.ATOMIC_COMPARE_EXCHANGE) × ((n : ℕ) × (value_at is i.operands 5 ≡ Some n)
    × IsTooStrong (value_at is i.operands 4) n))
    ⊎ ((i.opcode ≡ opcode.ATOMIC_FLAG_CLEAR) × ((n : ℕ) × (value_at is i.operands 2 ≡ Some n) × IsTrue (has_bit n 10)))
