-- What there is to ask of the instructions of an opcode. (For the code alone.)
use Rattle.std.specs.Prelude.{◌≡◌, ◌≤◌, ◌+◌, ℕ, List, Some, true, false, length, slice_get, take}
use Rattle.std.specs.List.{AllByRecursion}
use Rattle.spv_table.specs.Table.{Table}
use Rattle.spv_module.specs.Operand.{PlainInst}
use Rattle.spv_module.specs.declared.fault.Rule.{Rule}
use Rattle.spv_layout.specs.Shape.{FitsShape}
use Rattle.spv_kernel_operands.specs.Broken as operands
use Rattle.spv_versions.specs.Missing.{IsLateAt}
use Rattle.spv_versions.specs.declared.late.Late.{Late}
use Rattle.spv_versions.specs.inner.Late.{AreHitIn}
use Rattle.spv_limits.specs.Past.{IsPast}
use Rattle.spv_limits.specs.inner.Alone.{AreLong}
use Rattle.spv_limits.specs.inner.Counting.{IsUpTo}
use Rattle.spv_limits.specs.declared.past.Counts.{Counts}
use Rattle.spv_standard.specs.declared.asked.Asked.{Asked}
use Rattle.spv_standard.specs.inner.Silent.{IsSilent}

-- each instruction fits its row
abbrev pub AreFit : Table → List PlainInst → Type 0
AreFit G is = (n : ℕ) (i : PlainInst) → slice_get is n ≡ Some i → FitsShape G i

-- Where it is said that rules are not asked of an instruction, it does not break them; and the limits on how many there
-- are do not count it.
pub record IsAskedAt (G : Table) (minor : ℕ) (is : List PlainInst) (n : ℕ) (a : Asked) : Type 0 where
  pub operands : a.operands ≡ false → (r : Rule) → ¬ (operands.Broken G is r n)
  pub version : a.version ≡ false → ¬ (IsLateAt G minor is n)
  pub limits : a.limits ≡ false → (counts : Counts) → IsUpTo is n counts
      → (¬ (IsPast is n)) × IsUpTo is (n + 1) counts

-- Where it is said that rules are not asked of an opcode, no instruction of it breaks them but by an operand, or by how
-- many operands it has; of its first operands, as many as is said, none breaks one.
pub record IsAskedBy (G : Table) (minor : ℕ) (is : List PlainInst) (l : Late) (opcode : ℕ) (a : Asked) : Type 0 where
  pub operands : a.operands ≡ false → (n : ℕ) (i : PlainInst) → slice_get is n ≡ Some i → i.opcode ≡ opcode
      → (r : Rule) → ¬ (operands.Broken G is r n)
  pub version : a.version ≡ false → (n : ℕ) (i : PlainInst) → slice_get is n ≡ Some i → i.opcode ≡ opcode
      → ¬ (AreHitIn l i.operands) → ¬ (IsLateAt G minor is n)
  pub limits : a.limits ≡ false → (n : ℕ) (i : PlainInst) (counts : Counts) → slice_get is n ≡ Some i
      → i.opcode ≡ opcode → ¬ (AreLong i.operands) → length i.operands ≤ 255 → IsUpTo is n counts
      → (¬ (IsPast is n)) × IsUpTo is (n + 1) counts
  pub silent : (n : ℕ) (i : PlainInst) → slice_get is n ≡ Some i → i.opcode ≡ opcode
      → AllByRecursion IsSilent (take a.silent i.operands)

-- so it is of each opcode of which it is known
abbrev pub AreNoted : Table → ℕ → List PlainInst → Late → List Asked → Type 0
AreNoted G minor is l notes = (k : ℕ) (a : Asked) → slice_get notes k ≡ Some a → a.is_known ≡ true
    → IsAskedBy G minor is l k a
