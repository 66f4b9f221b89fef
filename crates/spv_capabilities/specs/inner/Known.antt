-- What is kept of questions that were answered. (For the code alone.)
use Rattle.std.specs.Prelude.{◌≡◌, ◌≢◌, ◌↔◌, ◌||◌, ℕ, List, Some, Bool, true, false, nat_eq, IsTrue}
use Rattle.std.specs.Prelude.{slice_get}
use Rattle.std.specs.List.{AllByRecursion}
use Rattle.std.specs.BTreeMap.{get}
use Rattle.std.specs.Ordering.{nat_cmp, ordering_then}
use Rattle.std.specs.declared.cmp.Ordering.{Ordering}
use Rattle.spv_capabilities.specs.declared.memo.Answer.{Answer}
use Rattle.spv_capabilities.specs.declared.memo.Answer.TheVariants.{Unknown, Yes, No, Free}
use Rattle.spv_capabilities.specs.declared.memo.Memo.{Memo}
use Rattle.spv_capabilities.specs.declared.memo.Enumerated.{Enumerated}
use Rattle.spv_table.specs.Table.{Table}
use Rattle.spv_module.specs.Operand.{PlainInst}
use Rattle.spv_module.specs.declared.opcode.TheConstants as opcode
use Rattle.spv_capabilities.specs.inner.Subject.{Subject}
use Rattle.spv_capabilities.specs.inner.Unkinded.{HasNoKinds}
use Rattle.spv_capabilities.specs.Capable.{IsCoveredValue, IsCoveredMask, IsCoveredOperand}
use Rattle.spv_capabilities.specs.Asked.{IsCoveredEntry}

-- C1, M1, E1 or E2 speak of an opcode other than that of OpFunction, or it declares a type that C2 asks more of
abbrev pub is_asked_more : ℕ → Bool
is_asked_more n = nat_eq n opcode.MEMORY_MODEL || nat_eq n opcode.ENTRY_POINT || nat_eq n opcode.EXECUTION_MODE
    || nat_eq n opcode.TYPE_INT || nat_eq n opcode.TYPE_FLOAT || nat_eq n opcode.TYPE_VECTOR
    || nat_eq n opcode.TYPE_IMAGE || nat_eq n opcode.TYPE_SAMPLER || nat_eq n opcode.EXECUTION_MODE_ID

-- At an opcode nothing is asked but that its entry is covered.
pub record IsAskedAlone (is : List PlainInst) (n : ℕ) : Type 0 where
  pub kinds : HasNoKinds is n
  pub more : is_asked_more n ≡ false
  pub function : n ≢ opcode.FUNCTION

-- The answer is that of the question P, if it is known; and `Free` says Q too.
abbrev pub IsAnswer : Answer → Type 0 → Type 0 → Type 0
IsAnswer Unknown P Q = Unit {0}
IsAnswer Yes P Q = P
IsAnswer No P Q = ¬ P
IsAnswer Free P Q = P × Q

-- the answer that is kept, and whether nothing else is asked
abbrev pub answer_of : Bool → Bool → Answer
answer_of false alone = No
answer_of true true = Free
answer_of true false = Yes

-- the order of pairs of numbers: by the first, then by the second
abbrev pub pair_cmp : ℕ × ℕ → ℕ × ℕ → Ordering
pair_cmp x y = ordering_then (nat_cmp x.0 y.0) (nat_cmp x.1 y.1)

-- What is kept of opcodes, whether their entries are covered, and whether nothing else is asked there; of enumerants,
-- by their kinds and values, whether they are covered; of a mask, that its set bits are; and of enumerants that were
-- met of late, that they are.
pub record IsKnown (s : Subject) (m : Memo) : Type 0 where
  pub entries : (n : ℕ) (a : Answer) → slice_get m.entries.items n ≡ Some a
      → IsAnswer a (IsCoveredEntry s.table s.insts n) (IsAskedAlone s.insts n)
  pub enumerants : (k v : ℕ) (b : Bool) → get pair_cmp m.enumerants (k, v) ≡ Some b → IsTrue b
      ↔ IsCoveredValue s.table s.insts k v
  pub mask : IsCoveredMask s.table s.insts m.mask_kind m.mask
  pub recent : (n : ℕ) (e : Enumerated) → slice_get m.recent n ≡ Some (Some e)
      → IsCoveredValue s.table s.insts e.kind e.value

-- the entry of an instruction and all its operands are covered
pub record AreCovered (G : Table) (is : List PlainInst) (i : PlainInst) : Type 0 where
  pub entry : IsCoveredEntry G is i.opcode
  pub operands : AllByRecursion (IsCoveredOperand G is) i.operands
