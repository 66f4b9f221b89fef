-- Operands that are found, or not. (For the code alone.)
use Rattle.std.specs.Prelude.{◌≡◌, ◌<◌, ◌≤◌, ◌^◌, ℕ, List, Some, Bool, true, false, Contains}
use Rattle.std.specs.Prelude.{if◌then◌else◌, nat_eq}
use Rattle.spv_module.specs.declared.opcode.TheConstants as opcode
use Rattle.spv_module.specs.Operand.{Plain, PlainInst}
use Rattle.spv_kernel_operands.specs.Value.{value_at}
use Rattle.spv_kernel_operands.specs.inner.Scopes.{AreBadSemantics}
use Rattle.spv_standard_evidence.specs.Operands.{literal_at}

-- a scope above Invocation; semantics with two orders, or with a bit that no kernel has
abbrev pub IsBad : Bool → ℕ → Type 0
IsBad true n = 4 < n
IsBad false n = AreBadSemantics n

-- The operand of that number is one of these, and it has a value that is so.
pub record IsValuedAt (P : ℕ → Type 0) (is : List PlainInst) (os : List Plain) (seats : List ℕ) (k : ℕ) : Type 0 where
  pub among : Contains seats k
  pub number : ℕ
  pub value : value_at is os k ≡ Some number
  pub holds : P number

-- the operand of OpAtomicCompareExchange and OpAtomicFlagClear that breaks what is asked of these alone
abbrev pub own_seat : ℕ → ℕ
own_seat code = if nat_eq code opcode.ATOMIC_FLAG_CLEAR then 2 else 5

-- no literal has a bit from the width up; the literal of that number has
abbrev pub AreNarrow : List Plain → ℕ → Type 0
AreNarrow os w = (k n : ℕ) → literal_at os k ≡ Some n → n < 2 ^ w

abbrev pub IsWider : List Plain → ℕ → ℕ → Type 0
IsWider os w k = (n : ℕ) × (literal_at os k ≡ Some n) × (2 ^ w ≤ n)
