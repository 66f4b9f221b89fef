-- How many parameters stand after the last OpFunction before an instruction. (For the code alone.)
use Rattle.std.specs.Prelude.{◌≡◌, ◌<◌, ◌≤◌, ℕ, List, [], ◌∷◌}
use Rattle.spv_module.specs.Operand.{PlainInst}
use Rattle.spv_layout.specs.declared.class.Class.TheVariants.{Function}
use Rattle.spv_layout.specs.Place.{IsAt}
use Rattle.spv_type_rules.specs.Function.{parameters_between}

-- f is the last OpFunction before instruction n
pub record IsLastBefore (is : List PlainInst) (n f : ℕ) : Type 0 where
  pub before : f < n
  pub there : IsAt is f (Function ∷ [])
  pub last : (k : ℕ) → f < k → k < n → ¬ (IsAt is k (Function ∷ []))

pub record AreCounted (is : List PlainInst) (n count : ℕ) : Type 0 where
  pub most : count ≤ n
  pub each : (f : ℕ) → IsLastBefore is n f → parameters_between is f n ≡ count
