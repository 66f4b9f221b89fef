-- O15 to O17: what atomics work on, what is written to, and how much is copied. [2.16.1, 3.7, 3.31, OpCopyMemorySized]
use Rattle.std.specs.Prelude.{◌≡◌, ◌⊎◌, ℕ, List, Bool, Option, Some, nat_eq, nat_le, ◌&&◌, ◌||◌, IsTrue}
use Rattle.std.specs.Prelude.{if◌then◌else◌, option_and_then}
use Rattle.spv_table.specs.Table.{Table}
use Rattle.spv_module.specs.declared.opcode.TheConstants as opcode
use Rattle.spv_module.specs.Operand.{PlainInst}
use Rattle.spv_module.specs.Width.{type_of}
use Rattle.spv_type_forms.specs.Form.{form_of}
use Rattle.spv_type_forms.specs.Types.{IsInt, IsFloat, pointee_in, class_in}
use Rattle.spv_capabilities.specs.Capable.{Has}
use Rattle.spv_kernel_operands.specs.Value.{id_at, value_at}

-- opcodes 227 to 242; those and 318 and 319; OpStore, OpCopyMemory and OpCopyMemorySized, 62 to 64 [3.49.8, 3.49.18]
abbrev pub is_atomic : ℕ → Bool
is_atomic code = nat_le opcode.ATOMIC_LOAD code && nat_le code opcode.ATOMIC_XOR

abbrev pub is_any_atomic : ℕ → Bool
is_any_atomic code =
    is_atomic code || (nat_le opcode.ATOMIC_FLAG_TEST_AND_SET code && nat_le code opcode.ATOMIC_FLAG_CLEAR)

abbrev pub is_write : ℕ → Bool
is_write code = nat_le opcode.STORE code && nat_le code opcode.COPY_MEMORY_SIZED

-- The pointer of such an instruction is the first value among its operands: the operand 0 of those that have no result,
-- the operand 2 of the others; and its type. [3.49.8, 3.49.18]
abbrev pub pointer_seat : ℕ → ℕ
pointer_seat code =
    if is_write code || (nat_eq code opcode.ATOMIC_STORE || nat_eq code opcode.ATOMIC_FLAG_CLEAR) then 0 else 2

abbrev pub pointer_type : List PlainInst → PlainInst → Option ℕ
pointer_type is i = option_and_then (type_of is) (id_at i.operands (pointer_seat i.opcode))

-- No atomic works on the type t: an int of width 8 or 16; one of width 64 without Int64Atomics (12); a float of width
-- 16 without AtomicFloat16MinMaxEXT (5616) and AtomicFloat16AddEXT (6095). [2.16.1, atomic access; 3.31]
abbrev pub IsNotAtomic : Table → List PlainInst → ℕ → Type 0
IsNotAtomic G is t =
    IsInt is t 8 ⊎ IsInt is t 16 ⊎ (IsInt is t 64 × ¬ (Has G is 12))
    ⊎ (IsFloat is t 16 × ¬ (Has G is 5616) × ¬ (Has G is 6095))

-- Instruction i breaks O15: an atomic works on what its pointer points to. [2.16.1]
pub record IsMisatomic (G : Table) (is : List PlainInst) (i : PlainInst) : Type 0 where
  pub called : IsTrue (is_atomic i.opcode)
  pub pointee : ℕ
  pub points : option_and_then (λ p. pointee_in (form_of is p)) (pointer_type is i) ≡ Some pointee
  pub not : IsNotAtomic G is pointee

-- Instruction i breaks O16: it writes, or is an atomic, and the class of its pointer is UniformConstant (0) or Input
-- (1), which are read alone. [3.7]
pub record IsMiswritten (is : List PlainInst) (i : PlainInst) : Type 0 where
  pub called : IsTrue (is_write i.opcode || is_any_atomic i.opcode)
  pub class : ℕ
  pub points : option_and_then (λ p. class_in (form_of is p)) (pointer_type is i) ≡ Some class
  pub read : (class ≡ 0) ⊎ (class ≡ 1)

-- Instruction i breaks O17: an OpCopyMemorySized (64) whose size, its operand 2, has the value 0. [OpCopyMemorySized]
pub record IsEmptyCopy (is : List PlainInst) (i : PlainInst) : Type 0 where
  pub called : i.opcode ≡ opcode.COPY_MEMORY_SIZED
  pub size : value_at is i.operands 2 ≡ Some 0
