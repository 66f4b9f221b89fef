-- Numbers that are missing, by the lines that say so. (For the code alone.)
use Rattle.std.specs.Prelude.{◌≡◌, ◌/◌, ◌%◌, ◌^◌, ℕ, List, Option, Some, None, Bool, true, false, slice_get}
use Rattle.std.specs.Prelude.{slice_index_or}
use Rattle.spv_versions.specs.declared.table.Kind.{Kind}
use Rattle.spv_versions.specs.Named.{IsSetBit}
use Rattle.spv_versions.specs.Table.{lines}
use Rattle.spv_versions.specs.inner.Lines.{IsListedAt}
use Rattle.spv_versions.specs.inner.Told.{kinds}

-- the bit v at a position is set in a mask, and missing by line l; the value v of a kind is, or a set bit v of a mask
abbrev pub IsBitHitBy : List Bool → Kind → ℕ → ℕ → ℕ → ℕ → Type 0
IsBitHitBy flags k m position v l =
    (m / 2 ^ position % 2 ≡ 1) × (v ≡ 2 ^ position) × IsListedAt lines flags k v l

abbrev pub IsHitBy : List Bool → Kind → Bool → ℕ → ℕ → ℕ → Type 0
IsHitBy flags k false n v l = (v ≡ n) × IsListedAt lines flags k v l
IsHitBy flags k true m v l = IsSetBit m v × IsListedAt lines flags k v l

-- it is of the kind at place p; of one of the kinds
abbrev pub IsHitAtBy : List Bool → List (Option ℕ) → ℕ → Bool → ℕ → ℕ → ℕ → ℕ → Type 0
IsHitAtBy flags ns j is_mask n p v l =
    (k : Kind) × (slice_get kinds p ≡ Some k) × (slice_index_or ns p None ≡ Some j) × IsHitBy flags k is_mask n v l

abbrev pub IsAnyHitBy : List Bool → List (Option ℕ) → ℕ → Bool → ℕ → ℕ → ℕ → Type 0
IsAnyHitBy flags ns j is_mask n v l = (p : ℕ) × IsHitAtBy flags ns j is_mask n p v l
