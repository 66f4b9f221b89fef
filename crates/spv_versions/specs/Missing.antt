-- O21: what the version of the header does not have. [3, 'missing before'; 3.49.4]
use Rattle.std.specs.Prelude.{◌≡◌, ◌<◌, ◌≤◌, ◌⊎◌, ℕ, List, ◌∷◌, Some, slice_get, Contains, codes, count_by}
use Rattle.std.specs.Prelude.{Bool, true, false, IsTrue, nat_eq}
use Rattle.std.specs.List.{starts_with}
use Rattle.spv_table.specs.Table.{Table}
use Rattle.spv_module.specs.declared.opcode.TheConstants as opcode
use Rattle.spv_module.specs.Operand.{Plain, OfType, Result, Id, Text, Mask, PlainInst}
use Rattle.spv_module.specs.Width.{type_of}
use Rattle.spv_type_forms.specs.declared.form.Form.TheVariants as form
use Rattle.spv_type_forms.specs.Form.{form_of}
use Rattle.spv_type_forms.specs.Types.{IsBool, IsVector}
use Rattle.spv_versions.specs.declared.table.Kind.{Kind}
use Rattle.spv_versions.specs.Named.{HasNumber, IsDeclared}
use Rattle.spv_versions.specs.Table.{IsBefore, IsOf, Line, Text as Name, lines}

-- A number of a kind is missing in a module of version 1.minor: a line is of it, the version is before what the line
-- says, and no OpExtension has a name of the line. [3, 3.49.4]
pub record IsMissing (minor : ℕ) (is : List PlainInst) (k : Kind) (n : ℕ) : Type 0 where
  pub line : Line
  pub listed : Contains lines line
  pub of : IsOf line k n
  pub before : IsBefore minor line.3
  pub undeclared : (name : Name) → Contains line.4.now name → ¬ (IsDeclared is name.now)

-- the masks of an instruction [3.49.8]
abbrev pub is_mask : Plain → Bool
is_mask (Mask k m) = true
is_mask o = false

-- A result type is an array or a struct; or a vector, and the condition is one bool. [3.49.13 OpSelect]
abbrev pub SelectsWhole : List PlainInst → ℕ → ℕ → Type 0
SelectsWhole is t x =
    ((e l : ℕ) × (form_of is t ≡ Some (form.Array e l)))
    ⊎ (form_of is t ≡ Some form.Struct)
    ⊎ (((c n : ℕ) × IsVector is t c n) × ((b : ℕ) × (type_of is x ≡ Some b) × IsBool is b))

-- The instruction i of a module of version 1.minor is what that version does not have, or has no more. [3;
-- OpCopyMemory, OpSelect; OpLessOrGreater, OpAtomicCompareExchangeWeak: 'missing after'; SPV_KHR_non_semantic_info]
pub data IsLate (G : Table) (minor : ℕ) (is : List PlainInst) (i : PlainInst) : Type 0 where
  number : (k : Kind) (n : ℕ) → HasNumber G i k n → IsMissing minor is k n → IsLate G minor is i
  two_masks : minor < 4 → (i.opcode ≡ opcode.COPY_MEMORY) ⊎ (i.opcode ≡ opcode.COPY_MEMORY_SIZED)
      → 2 ≤ count_by is_mask i.operands → IsLate G minor is i
  whole : (t x c : ℕ) (os : List Plain) → minor < 4 → i.opcode ≡ opcode.SELECT
      → i.operands ≡ OfType t ∷ Result x ∷ Id c ∷ os → SelectsWhole is t c → IsLate G minor is i
  no_either : 5 < minor → i.opcode ≡ opcode.LESS_OR_GREATER → IsLate G minor is i
  no_weak : 3 < minor → i.opcode ≡ opcode.ATOMIC_COMPARE_EXCHANGE_WEAK → IsLate G minor is i
  no_meaning : (x : ℕ) (name : List ℕ) (os : List Plain) → minor < 6 → i.opcode ≡ opcode.EXT_INST_IMPORT
      → i.operands ≡ Result x ∷ Text name ∷ os → IsTrue (starts_with nat_eq name (codes "NonSemantic."))
      → ¬ (IsDeclared is (codes "SPV_KHR_non_semantic_info")) → IsLate G minor is i

abbrev pub IsLateAt : Table → ℕ → List PlainInst → ℕ → Type 0
IsLateAt G minor is n = (i : PlainInst) × (slice_get is n ≡ Some i) × IsLate G minor is i
