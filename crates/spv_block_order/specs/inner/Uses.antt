-- Operands that use a local value before its definition. (For the code alone.)
use Rattle.std.specs.Prelude.{◌≡◌, ◌<◌, ℕ, List}
use Rattle.spv_table.specs.Table.{Table}
use Rattle.spv_module.specs.Operand.{PlainInst}
use Rattle.spv_layout.specs.declared.form.Role.{Role}
use Rattle.spv_ids.specs.Definition.{IsDefinedAt, IsUsedAt}
use Rattle.spv_flow.specs.branches.Ready.{IsLocalValue}
use Rattle.spv_block_order.specs.Early.{IsEarlyUse}

-- The id is a local value that no instruction below n has as its result.
abbrev pub IsLater : List PlainInst → ℕ → ℕ → Type 0
IsLater is n x = IsLocalValue is x × ((m : ℕ) → m < n → ¬ (IsDefinedAt is x m))

-- Operand k of instruction n uses such a value.
pub record IsEarlyAt (G : Table) (is : List PlainInst) (n k : ℕ) : Type 0 where
  pub id : ℕ
  pub role : Role
  pub used : IsUsedAt G is n k id role
  pub later : IsLater is n id

-- The same, by the instruction that defines the id.
abbrev pub IsLaterBy : List PlainInst → ℕ → ℕ → ℕ → Type 0
IsLaterBy is n x m = IsLater is n x × IsDefinedAt is x m

abbrev pub IsEarlyAtBy : Table → List PlainInst → ℕ → ℕ → ℕ → Type 0
IsEarlyAtBy G is n k m = (e : IsEarlyAt G is n k) × IsDefinedAt is e.id m

-- Instruction n uses a local value early, by its operand k, which instruction m defines.
abbrev pub IsEarlyUseBy : Table → List PlainInst → ℕ → ℕ → ℕ → Type 0
IsEarlyUseBy G is n k m = (e : IsEarlyUse G is n) × (e.operand ≡ k) × (e.local.place ≡ m)
