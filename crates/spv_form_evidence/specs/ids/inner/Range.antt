-- Ids of an instruction that are out of range. (For the code alone.)
use Rattle.std.specs.Prelude.{◌≡◌, ℕ, Some, slice_get}
use Rattle.spv_table.specs.Table.{Table}
use Rattle.spv_module.specs.Operand.{PlainInst, Result, result_in}
use Rattle.spv_ids.specs.Broken.{IsOutOfRange}
use Rattle.spv_form_evidence.specs.ids.inner.Uses.{IsNamedAt}

-- Operand k of the instruction is the id, as its result.
pub record IsOwnResult (i : PlainInst) (k x : ℕ) : Type 0 where
  pub operand : slice_get i.operands k ≡ Some (Result x)
  pub first : result_in i.operands ≡ Some x

-- Operand k of the instruction is the id, as its result, a use or a mention.
pub data IsIdAt (G : Table) (i : PlainInst) (k x : ℕ) : Type 0 where
  as_result : IsOwnResult i k x → IsIdAt G i k x
  as_named : IsNamedAt G i k x → IsIdAt G i k x

-- Operand k of the instruction is such an id that is out of range.
pub record IsAstray (G : Table) (bound : ℕ) (i : PlainInst) (k : ℕ) : Type 0 where
  pub id : ℕ
  pub at : IsIdAt G i k id
  pub out : IsOutOfRange bound id
