-- How many of some entry points, from the first on, name a variable. (For the code alone.)
use Rattle.std.specs.Prelude.{◌≡◌, ◌+◌, ◌<◌, ◌⊎◌, ℕ, List, Some, slice_get}
use Rattle.spv_module.specs.Operand.{PlainInst}
use Rattle.spv_type_forms.specs.Definitions.{IsGlobal}
use Rattle.spv_interfaces.specs.declared.used.Use.{Use}
use Rattle.spv_interfaces.specs.inner.Entries.{Names}
use Rattle.spv_interfaces.specs.inner.Wanted.{IsWanted}

-- Each new count is the old one; or it was k, is one more, and something is so.
pub record Counts (k : ℕ) (P : ℕ → Type 0) (old new : List ℕ) : Type 0 where
  pub each : (v m : ℕ) → slice_get new v ≡ Some m
      → (slice_get old v ≡ Some m) ⊎ ((m ≡ k + 1) × (slice_get old v ≡ Some k) × P v)

-- As many entry points as a count says, from the first on, name what that instruction defines.
pub record AreCounts (is : List PlainInst) (entries counts : List ℕ) : Type 0 where
  pub each : (v m : ℕ) → slice_get counts v ≡ Some m → (k n : ℕ) → k < m → slice_get entries k ≡ Some n
      → Names is n v

-- Each variable that has to be in the interface where it is used has this count.
pub record AreSettled (minor : ℕ) (is : List PlainInst) (counts : List ℕ) (all : ℕ) : Type 0 where
  pub each : (x : ℕ) (g : IsGlobal is x) → IsWanted minor is x → slice_get counts g.place ≡ Some all

-- The list has the number.
pub record IsListed (list : List ℕ) (v : ℕ) : Type 0 where
  pub place : ℕ
  pub there : slice_get list place ≡ Some v

-- The variable of each of the first uses has this count, or is in the list.
pub record AreRest (uses : List Use) (counts : List ℕ) (all to : ℕ) (rest : List ℕ) : Type 0 where
  pub each : (k : ℕ) (u : Use) → k < to → slice_get uses k ≡ Some u
      → (slice_get counts u.variable ≡ Some all) ⊎ IsListed rest u.variable

-- The instruction had this count, or is in the longer list, which has what the shorter one has; and what has this count
-- now had it before, or is in that list.
pub record Settles (number all : ℕ) (old new less more : List ℕ) : Type 0 where
  pub here : (slice_get old number ≡ Some all) ⊎ IsListed more number
  pub kept : (v : ℕ) → IsListed less v → IsListed more v
  pub counts : (v : ℕ) → slice_get new v ≡ Some all → (slice_get old v ≡ Some all) ⊎ IsListed more v
