-- What is asked of some decorations. (For the code alone.)
use Rattle.std.specs.Prelude.{◌⊎◌, ℕ, List, [], ◌∷◌}
use Rattle.spv_module.specs.Operand.{PlainInst}
use Rattle.spv_declarations.specs.Table.{IsNeverOnMembers, StandsOn}

-- one of some decorations does not stand on the id; one is never one of members
abbrev pub IsAnyMisplaced : List PlainInst → List ℕ → ℕ → Type 0
IsAnyMisplaced is [] x = ⊥
IsAnyMisplaced is (d ∷ ds) x = (¬ (StandsOn is d x)) ⊎ IsAnyMisplaced is ds x

abbrev pub IsAnyNever : List ℕ → Type 0
IsAnyNever [] = ⊥
IsAnyNever (d ∷ ds) = IsNeverOnMembers d ⊎ IsAnyNever ds
