-- Which instructions call a function. (For the code alone.)
use Rattle.std.specs.Prelude.{◌≡◌, ◌<◌, ℕ, List, Some, slice_get}
use Rattle.spv_module.specs.Operand.{PlainInst}
use Rattle.spv_capabilities.specs.Entry.{called_by}

-- instruction c calls the id
pub record IsCallOf (is : List PlainInst) (x c : ℕ) : Type 0 where
  pub call : PlainInst
  pub there : slice_get is c ≡ Some call
  pub called : called_by call ≡ Some x

-- no instruction before number `to` calls it
pub record AreNoCallsBefore (is : List PlainInst) (x to : ℕ) : Type 0 where
  pub each : (c : ℕ) → c < to → ¬ (IsCallOf is x c)

-- no instruction calls it
pub record AreNoCalls (is : List PlainInst) (x : ℕ) : Type 0 where
  pub each : (c : ℕ) → ¬ (IsCallOf is x c)
