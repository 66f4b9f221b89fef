-- The first broken rule of stage O, of some of its rules. (For the code alone.)
use Rattle.std.specs.Prelude.{◌⊎◌, ℕ, Option, MatchOption}
use Rattle.spv_module.specs.declared.fault.Rule.{Rule}
use Rattle.spv_layout.specs.First.{IsFirst, IsUnbroken}
use Rattle.spv_layout.specs.Stage.{of_standard}
use Rattle.spv_standard.specs.declared.found.Found.{Found}

-- none is broken; or this one is, and comes before all others
abbrev pub IsFirstIn : (Rule → ℕ → Type 0) → Option Found → Type 0
IsFirstIn Broken o =
    MatchOption o (IsUnbroken Broken of_standard) (λ f. IsFirst Broken of_standard f.rule f.inst)

-- a rule of one or of the other
abbrev pub Either : (Rule → ℕ → Type 0) → (Rule → ℕ → Type 0) → Rule → ℕ → Type 0
Either P Q r n = P r n ⊎ Q r n
