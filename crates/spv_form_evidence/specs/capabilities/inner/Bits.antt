-- A set bit that is not covered. (For the code alone.)
use Rattle.std.specs.Prelude.{◌≡◌, ◌^◌, ◌/◌, ◌%◌, ℕ, List, Contains, nat_eq, true}
use Rattle.spv_table.specs.Table.{Table}
use Rattle.spv_module.specs.Operand.{PlainInst}
use Rattle.spv_module.specs.Spelling.{set_bits}
use Rattle.spv_capabilities.specs.Capable.{IsCoveredValue}

-- the bit at a position is set
abbrev pub IsSet : ℕ → ℕ → Type 0
IsSet mask position = nat_eq (mask / 2 ^ position % 2) 1 ≡ true

-- b is the bit at that position, is set, and is not covered
pub record IsUncoveredAt (G : Table) (is : List PlainInst) (kind mask position b : ℕ) : Type 0 where
  pub bit : b ≡ 2 ^ position
  pub set : IsSet mask position
  pub uncovered : ¬ (IsCoveredValue G is kind b)

-- b is a set bit, and is not covered
pub record IsUncoveredBit (G : Table) (is : List PlainInst) (kind mask b : ℕ) : Type 0 where
  pub set : Contains (set_bits mask) b
  pub uncovered : ¬ (IsCoveredValue G is kind b)
