-- Ids that have no definition. (For the code alone.)
use Rattle.std.specs.Prelude.{◌<◌, ℕ, List}
use Rattle.spv_module.specs.Operand.{PlainInst}
use Rattle.spv_ids.specs.Definition.{IsDefinedAt}

-- The id is below the bound, and no instruction defines it.
pub record IsUndefined (bound : ℕ) (is : List PlainInst) (x : ℕ) : Type 0 where
  pub below : x < bound
  pub none : (m : ℕ) → ¬ (IsDefinedAt is x m)
