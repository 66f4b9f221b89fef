-- Stops at instructions whose places are known. (For the code alone.)
use Rattle.std.specs.Prelude.{◌≡◌, ℕ, List, Some, slice_get}
use Rattle.spv_module.specs.Operand.{PlainInst}
use Rattle.spv_module.specs.declared.fault.Rule.{Rule}
use Rattle.spv_module.specs.declared.fault.Stop.{Stop}
use Rattle.spv_module.specs.declared.fault.Stop.TheVariants.{Fault, Memory}
use Rattle.spv_layout.specs.declared.place.Place.{Place}
use Rattle.spv_layout.specs.Place.{first_word_of}
use Rattle.spv_layout.specs.Plan.{IsPlaceOf}

-- Each place is that of the instruction of its number.
abbrev pub ArePlacesOf : List PlainInst → List Place → Type 0
ArePlacesOf is places = (n : ℕ) (p : Place) → slice_get places n ≡ Some p → IsPlaceOf is n p

-- The stop is the fault of the rule at the instruction and its first word.
abbrev pub IsStopAt : List PlainInst → Rule → ℕ → Stop → Type 0
IsStopAt is r n Memory = ⊥
IsStopAt is r n (Fault f) = (f.rule ≡ r) × (f.inst ≡ n) × (f.word ≡ first_word_of is n)
