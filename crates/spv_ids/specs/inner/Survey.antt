-- What is known of a module while its uses are looked at. (For the code alone.)
use Rattle.std.specs.Prelude.{◌≡◌, ◌<◌, ◌≤◌, ℕ, List, [], ◌∷◌, Some, map, length, slice_get}
use Rattle.spv_module.specs.Operand.{PlainInst}
use Rattle.spv_module.specs.Module.{plain_inst}
use Rattle.spv_layout.specs.declared.class.Class.TheVariants.{FunctionEnd}
use Rattle.spv_layout.specs.declared.place.Place.{Place}
use Rattle.spv_layout.specs.Place.{IsAt, IsOfSection, AreFew}
use Rattle.spv_layout.specs.Plan.{IsPlaceOf}
use Rattle.spv_ids.specs.declared.survey.Survey.{Survey}
use Rattle.spv_ids.specs.declared.survey.Site.{Site}
use Rattle.spv_ids.specs.Definition.{IsDefinedAt, IsLocal}
use Rattle.spv_ids.specs.Order.{HasOpcode}
use Rattle.spv_ids.specs.inner.Uses.{AreEarly}
use Rattle.spv_ids.specs.inner.Known.{AreFirst, AreLater, IsFunctionOf}

-- The places are those of the instructions, which have their results early, and none at the end of a function.
pub record ArePlaces (is : List PlainInst) (places : List Place) : Type 0 where
  pub count : length places ≡ length is
  pub place : (n : ℕ) (p : Place) → slice_get places n ≡ Some p → IsPlaceOf is n p
  pub early : AreEarly is
  pub ends : (n x : ℕ) → IsDefinedAt is x n → ¬ (IsAt is n (FunctionEnd ∷ []))

-- An id that an instruction before n defines is local to no function.
pub record AreGlobal (is : List PlainInst) (n : ℕ) : Type 0 where
  pub none : (k x : ℕ) → k < n → IsDefinedAt is x k → ¬ (IsLocal is x)

abbrev pub insts_of : Survey → List PlainInst
insts_of s = map plain_inst s.insts.now

-- The survey is that of its instructions.
pub record IsSurvey (s : Survey) : Type 0 where
  pub places : ArePlaces (insts_of s) s.plan.now
  pub most : AreFew s.insts.now
  pub within : s.end ≤ length (insts_of s)
  pub firsts : AreFirst s.bound (insts_of s) s.end s.firsts.now
  pub later : AreLater (insts_of s) s.end (length (insts_of s)) s.later.now
  pub globals : AreGlobal (insts_of s) s.globals

-- The site is that of instruction n, before the end of the survey.
pub record IsSite (s : Survey) (site : Site) : Type 0 where
  pub below : site.inst < s.end
  pub opcode : HasOpcode (insts_of s) site.inst site.opcode
  pub section : IsOfSection (insts_of s) site.inst site.section
  pub function : IsFunctionOf (insts_of s) site.inst site.function
