-- What is kept of a module whose places and definitions are known. (For the code alone.)
use Rattle.std.specs.Prelude.{◌≡◌, ℕ, List, Option, Some, length, slice_get, option_and_then}
use Rattle.spv_module.specs.Operand.{PlainInst}
use Rattle.spv_module.specs.Width.{definition_of}
use Rattle.spv_layout.specs.declared.place.Place.{Place}
use Rattle.spv_layout.specs.Plan.{IsPlaceOf}
use Rattle.spv_ids.specs.declared.ids.Ids.{Ids}
use Rattle.spv_ids.specs.Outcome.{IsDefinitionOf, definition_in}
use Rattle.spv_type_forms.specs.declared.meaning.Meaning.{Meaning}
use Rattle.spv_type_forms.specs.inner.Meaning.{AreMeant}
use Rattle.spv_type_forms.specs.Objects.{addressing_of}

-- The instruction that is kept of an id is its one definition, these are the places of the instructions, what is noted
-- of ids holds of them, and this is the addressing model.
pub record AreFound (is : List PlainInst) (places : List Place) (ids : Ids) (meanings : List Meaning)
    (addressing : Option ℕ) : Type 0 where
  pub found : (x : ℕ) → definition_of is x ≡ option_and_then (slice_get is) (definition_in ids x)
  pub each : (x : ℕ) → IsDefinitionOf is x (definition_in ids x)
  pub count : length places ≡ length is
  pub place : (n : ℕ) (p : Place) → slice_get places n ≡ Some p → IsPlaceOf is n p
  pub meant : AreMeant is meanings
  pub model : addressing ≡ addressing_of is
