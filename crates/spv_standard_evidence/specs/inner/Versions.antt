-- What an instruction has that is missing, by what is told of the module. (For the code alone.)
use Rattle.std.specs.Prelude.{◌≡◌, ◌<◌, ◌≤◌, ◌⊎◌, ℕ, List, ◌∷◌, Option, Some, Bool, true, false, IsTrue, codes}
use Rattle.std.specs.Prelude.{count_by, nat_eq, option_map, slice_get, unwrap_or}
use Rattle.std.specs.List.{starts_with}
use Rattle.spv_module.specs.declared.opcode.TheConstants as opcode
use Rattle.spv_module.specs.Operand.{Plain, OfType, Result, Id, Text, Value, Mask, PlainInst}
use Rattle.spv_versions.specs.declared.table.Kind.TheVariants as kind
use Rattle.spv_versions.specs.Missing.{SelectsWhole, is_mask}
use Rattle.spv_versions.specs.Named.{IsDeclared}
use Rattle.spv_versions.specs.Table.{lines}
use Rattle.spv_versions.specs.inner.Hits.{IsAnyHitBy}
use Rattle.spv_versions.specs.inner.Lines.{IsListedAt}
use Rattle.spv_evidence.specs.declared.evidence.Lister.{Lister}
use Rattle.spv_evidence.specs.declared.evidence.Lister.TheVariants as lister

-- its opcode by line l; a value or a bit of an operand
abbrev pub IsLackOf : List Bool → List (Option ℕ) → PlainInst → Lister → ℕ → Type 0
IsLackOf flags ns i lister.Entry l = IsListedAt lines flags kind.Opcode i.opcode l
IsLackOf flags ns i (lister.Value k) l =
    (j : ℕ) × (v : ℕ) × (slice_get i.operands k ≡ Some (Value j v)) × IsAnyHitBy flags ns j false v v l
IsLackOf flags ns i (lister.Bit k b) l =
    (j : ℕ) × (m : ℕ) × (slice_get i.operands k ≡ Some (Mask j m)) × IsAnyHitBy flags ns j true m b l
IsLackOf flags ns i lister.Width l = ⊥
IsLackOf flags ns i lister.Type l = ⊥
IsLackOf flags ns i lister.Access l = ⊥

-- the operand of that number is a mask
abbrev pub IsMaskAt : List Plain → ℕ → Type 0
IsMaskAt os k = (o : Plain) × (slice_get os k ≡ Some o) × (is_mask o ≡ true)

abbrev pub mask_at : List Plain → ℕ → Bool
mask_at os k = unwrap_or (option_map is_mask (slice_get os k)) false

-- an instruction has a form that came with a later version
pub data IsForm (minor : ℕ) (is : List PlainInst) (i : PlainInst) : Type 0 where
  two_masks : minor < 4 → (i.opcode ≡ opcode.COPY_MEMORY) ⊎ (i.opcode ≡ opcode.COPY_MEMORY_SIZED)
      → 2 ≤ count_by is_mask i.operands → IsForm minor is i
  whole : (t x c : ℕ) (os : List Plain) → minor < 4 → i.opcode ≡ opcode.SELECT
      → i.operands ≡ OfType t ∷ Result x ∷ Id c ∷ os → SelectsWhole is t c → IsForm minor is i
  no_meaning : (x : ℕ) (name : List ℕ) (os : List Plain) → minor < 6 → i.opcode ≡ opcode.EXT_INST_IMPORT
      → i.operands ≡ Result x ∷ Text name ∷ os → IsTrue (starts_with nat_eq name (codes "NonSemantic."))
      → ¬ (IsDeclared is (codes "SPV_KHR_non_semantic_info")) → IsForm minor is i

-- an instruction went with an earlier version
pub data IsGone (minor : ℕ) (i : PlainInst) : Type 0 where
  no_either : 5 < minor → i.opcode ≡ opcode.LESS_OR_GREATER → IsGone minor i
  no_weak : 3 < minor → i.opcode ≡ opcode.ATOMIC_COMPARE_EXCHANGE_WEAK → IsGone minor i

abbrev pub IsOdd : ℕ → List PlainInst → PlainInst → Type 0
IsOdd minor is i = IsGone minor i ⊎ IsForm minor is i
