-- What of a module stands before its functions. (For the code alone.)
use Rattle.std.specs.Prelude.{◌≤◌, ◌<◌, ◌∷◌, [], ℕ, List, length}
use Rattle.spv_module.specs.Operand.{Plain, PlainInst}
use Rattle.spv_layout.specs.declared.class.Class.TheVariants.{Function}
use Rattle.spv_layout.specs.Place.{IsAt}
use Rattle.spv_type_forms.specs.Definitions.{IsGlobal}
use Rattle.spv_interfaces.specs.inner.Entries.{IsEntry}

-- Each entry point and each variable of section 9 is among the first `count` instructions, and no OpFunction is.
pub record AreEarly (is : List PlainInst) (count : ℕ) : Type 0 where
  pub within : count ≤ length is
  pub entries : (n f : ℕ) (interface : List Plain) → IsEntry is n f interface → n < count
  pub variables : (x : ℕ) (g : IsGlobal is x) → g.place < count
  pub functions : (n : ℕ) → n < count → ¬ (IsAt is n (Function ∷ []))

-- Each variable of section 9 is among the instructions from `first` on and before `end`.
pub record AreBetween (is : List PlainInst) (first end : ℕ) : Type 0 where
  pub within : end ≤ length is
  pub from : (x : ℕ) (g : IsGlobal is x) → first ≤ g.place
  pub before : (x : ℕ) (g : IsGlobal is x) → g.place < end
