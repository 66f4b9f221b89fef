-- The function definitions of a module. A function goes by the number of its OpFunction. [2.4]
use Rattle.std.specs.Prelude.{◌≡◌, ◌<◌, ℕ, List, Some, length, slice_get}
use Rattle.spv_module.specs.Operand.{PlainInst}
use Rattle.spv_layout.specs.Place.{IsDefinition}

-- The definitions before instruction n are just these functions, in order.
pub record AreDefinitions (is : List PlainInst) (n : ℕ) (functions : List ℕ) : Type 0 where
  pub each : (k f : ℕ) → slice_get functions k ≡ Some f → IsDefinition is f × (f < n)
  pub all : (f : ℕ) → f < n → IsDefinition is f → (k : ℕ) × (slice_get functions k ≡ Some f)
  pub rising : (j k f g : ℕ) → j < k → slice_get functions j ≡ Some f → slice_get functions k ≡ Some g
      → f < g

-- So many definitions stand before instruction n.
pub record IsCount (is : List PlainInst) (n count : ℕ) : Type 0 where
  pub functions : List ℕ
  pub definitions : AreDefinitions is n functions
  pub counted : length functions ≡ count

-- The module has so many function definitions.
abbrev pub CountsDefinitions : List PlainInst → ℕ → Type 0
CountsDefinitions is count = IsCount is (length is) count
