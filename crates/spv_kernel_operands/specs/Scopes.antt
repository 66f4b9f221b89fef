-- O14: scopes and memory semantics. An operand without a value breaks nothing. [3.25, 3.27, 3.49.18, 3.49.20]
use Rattle.std.specs.Prelude.{◌≡◌, ◌≢◌, ◌<◌, ◌⊎◌, ℕ, List, Bool, false, nat_le, ◌&&◌, ◌||◌, IsTrue, Contains}
use Rattle.std.specs.Prelude.{Option, Some, slice_get, bit_and}
use Rattle.spv_module.specs.declared.opcode.TheConstants as opcode
use Rattle.spv_module.specs.Operand.{PlainInst}
use Rattle.spv_kernel_operands.specs.Value.{value_at, has_bit}
use Rattle.spv_kernel_operands.specs.Seats.{scopes_of, semantics_of}

-- Of the bits Acquire (2), Release (4), AcquireRelease (8) and SequentiallyConsistent (16) a number has at most one.
-- [3.25]
abbrev pub orders : ℕ → ℕ
orders n = bit_and n 30

abbrev pub HasOneOrder : ℕ → Type 0
HasOneOrder n = (orders n ≡ 0) ⊎ (orders n ≡ 2) ⊎ (orders n ≡ 4) ⊎ (orders n ≡ 8) ⊎ (orders n ≡ 16)

-- UniformMemory (64), OutputMemory (4096), MakeAvailable (8192), MakeVisible (16384) and Volatile (32768) need
-- capabilities that no kernel has. [3.25]
abbrev pub foreign : ℕ
foreign = 61504

-- the opcodes of group instructions, whose first scope is that of a group [3.49.21]
abbrev pub is_group : ℕ → Bool
is_group code =
    (nat_le opcode.GROUP_ASYNC_COPY code && nat_le code opcode.GROUP_S_MAX)
    || ((nat_le opcode.GROUP_RESERVE_READ_PIPE_PACKETS code && nat_le code opcode.GROUP_COMMIT_WRITE_PIPE)
    || (nat_le opcode.GROUP_NON_UNIFORM_ELECT code && nat_le code opcode.GROUP_NON_UNIFORM_QUAD_SWAP))

-- Semantics n of OpAtomicCompareExchange for where the values differ are Release or AcquireRelease; or stronger than
-- those for where they are equal, if these have a value: SequentiallyConsistent where these are not, or Acquire where
-- these have no order. [OpAtomicCompareExchange]
pub data IsTooStrong (equal : Option ℕ) (n : ℕ) : Type 0 where
  releases : IsTrue (has_bit n 12) → IsTooStrong equal n
  sequential : (m : ℕ) → equal ≡ Some m → IsTrue (has_bit n 16) → has_bit m 16 ≡ false → IsTooStrong equal n
  acquires : (m : ℕ) → equal ≡ Some m → IsTrue (has_bit n 2) → orders m ≡ 0 → IsTooStrong equal n

-- The operand k of the instruction is a scope with the value n; it is semantics with that value.
pub record IsScope (is : List PlainInst) (i : PlainInst) (k n : ℕ) : Type 0 where
  pub seat : Contains (scopes_of i.opcode) k
  pub value : value_at is i.operands k ≡ Some n

pub record AreSemantics (is : List PlainInst) (i : PlainInst) (k n : ℕ) : Type 0 where
  pub seat : Contains (semantics_of i.opcode) k
  pub value : value_at is i.operands k ≡ Some n

-- Instruction i breaks O14.
pub data IsMisscoped (is : List PlainInst) (i : PlainInst) : Type 0 where
  -- a scope above Invocation (4): those need the memory model of Vulkan, or ray tracing
  scope : (k n : ℕ) → IsScope is i k n → 4 < n → IsMisscoped is i
  -- the first scope of a group instruction, neither Workgroup (2) nor Subgroup (3)
  group : (k n : ℕ) → IsTrue (is_group i.opcode) → slice_get (scopes_of i.opcode) 0 ≡ Some k → IsScope is i k n
      → n ≢ 2 → n ≢ 3 → IsMisscoped is i
  -- semantics with two orders, or with a bit that no kernel has
  order : (k n : ℕ) → AreSemantics is i k n → ¬ (HasOneOrder n) → IsMisscoped is i
  capable : (k n : ℕ) → AreSemantics is i k n → IsTrue (has_bit n foreign) → IsMisscoped is i
  -- the two semantics of OpAtomicCompareExchange (230), its operands 4 and 5
  unequal : (n : ℕ) → i.opcode ≡ opcode.ATOMIC_COMPARE_EXCHANGE → value_at is i.operands 5 ≡ Some n
      → IsTooStrong (value_at is i.operands 4) n → IsMisscoped is i
  -- those of OpAtomicFlagClear (319), its operand 2: neither Acquire nor AcquireRelease
  clear : (n : ℕ) → i.opcode ≡ opcode.ATOMIC_FLAG_CLEAR → value_at is i.operands 2 ≡ Some n → IsTrue (has_bit n 10)
      → IsMisscoped is i
