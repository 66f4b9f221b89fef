-- Literals in order, and the selector. (For the code alone.)
use Rattle.std.specs.Prelude.{◌≡◌, ◌≤◌, ◌<◌, ℕ, List, Some, slice_get, option_and_then}
use Rattle.spv_module.specs.Operand.{Plain, PlainInst}
use Rattle.spv_module.specs.Width.{type_of}
use Rattle.spv_type_forms.specs.Types.{IsInt}
use Rattle.spv_kernel_operands.specs.Value.{id_at}

-- None is below an earlier one.
pub record AreRising (ns : List ℕ) : Type 0 where
  pub each : (j k m n : ℕ) → j < k → slice_get ns j ≡ Some m → slice_get ns k ≡ Some n → m ≤ n

-- The type of the selector, the first operand, is an int type of width w.
pub record IsSelector (is : List PlainInst) (os : List Plain) (w : ℕ) : Type 0 where
  pub selector : ℕ
  pub typed : option_and_then (type_of is) (id_at os 0) ≡ Some selector
  pub int : IsInt is selector w
