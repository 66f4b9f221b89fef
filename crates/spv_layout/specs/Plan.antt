-- What a plan of a module says, and what a refusal says. (2.4; the order of the rules own.)
use Rattle.std.specs.Prelude.{◌≡◌, ◌⊎◌, ℕ, List, Some, MatchOption, length, slice_get}
use Rattle.spv_table.specs.Table.{Table}
use Rattle.spv_module.specs.Operand.{PlainInst}
use Rattle.spv_module.specs.declared.profile.Profile.{Profile}
use Rattle.spv_layout.specs.declared.place.Place.{Place}
use Rattle.spv_module.specs.declared.fault.Stop.{Stop}
use Rattle.spv_module.specs.declared.fault.Stop.TheVariants.{Fault, Memory}
use Rattle.spv_layout.specs.First.{IsFirst, IsUnbroken}
use Rattle.spv_layout.specs.Stage.{of_profile, of_layout}
use Rattle.spv_layout.specs.Broken.{Broken}
use Rattle.spv_layout.specs.Layout.{IsLayout, classes, seen_classes}
use Rattle.spv_layout.specs.Shape.{FitsShape}
use Rattle.spv_layout.specs.Profile.{FitsProfile}
use Rattle.spv_layout.specs.Place.{IsOfSection, IsOfFunction, IsOfBlock, first_word_of}

-- The place is that of instruction n.
pub record IsPlaceOf (is : List PlainInst) (n : ℕ) (p : Place) : Type 0 where
  pub section : IsOfSection is n p.section
  pub function : MatchOption p.function ((f : ℕ) → ¬ (IsOfFunction is n f)) (λ f. IsOfFunction is n f)
  pub block : MatchOption p.block ((b : ℕ) → ¬ (IsOfBlock is n b)) (λ b. IsOfBlock is n b)
  pub word : p.word ≡ first_word_of is n

-- Each instruction fits its row, all together are laid out as a module of some profile, and these are their places.
pub record IsPlan (G : Table) (is : List PlainInst) (places : List Place) : Type 0 where
  pub fits : (n : ℕ) (i : PlainInst) → slice_get is n ≡ Some i → FitsShape G i
  pub layout : IsLayout (classes is)
  pub count : length places ≡ length is
  pub place : (n : ℕ) (p : Place) → slice_get places n ≡ Some p → IsPlaceOf is n p

-- The profile has each instruction, which fits its row, and all together are laid out as a module of the profile.
pub record IsLaidOut (p : Profile) (G : Table) (is : List PlainInst) : Type 0 where
  pub fits : (n : ℕ) (i : PlainInst) → slice_get is n ≡ Some i → FitsProfile p G i
  pub layout : IsLayout (seen_classes p is)

-- What a refusal says: out of memory; or the first broken rule of the profile, or where none is, of the layout; with
-- the number of the first word of that instruction, or at the end the number of all words.
abbrev pub IsRefusal : Profile → Table → List PlainInst → Stop → Type 0
IsRefusal p G is Memory = Unit {0}
IsRefusal p G is (Fault f) =
    (IsFirst (Broken p G is) of_profile f.rule f.inst
    ⊎ (IsUnbroken (Broken p G is) of_profile × IsFirst (Broken p G is) of_layout f.rule f.inst))
    × (f.word ≡ first_word_of is f.inst)
