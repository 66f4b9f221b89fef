-- Types whose numbers are one word, and stand in decimal. (For the code alone.)
use Rattle.std.specs.Prelude.{◌≡◌, ◌≤◌, ℕ, List, Option, Some, false, option_and_then}
use Rattle.spv_module.specs.Operand.{PlainInst}
use Rattle.spv_module.specs.Width.{width_of}
use Rattle.spv_lines.specs.Operand.{is_float_type}

-- An id is that of a type of at most 32 bits that is no float: its numbers are one word, and stand in decimal.
pub record IsNarrow (before : List PlainInst) (type_id : Option ℕ) : Type 0 where
  pub width : ℕ
  pub least : width ≤ 32
  pub is : option_and_then (width_of before) type_id ≡ Some width
  pub no_float : is_float_type before type_id ≡ false
