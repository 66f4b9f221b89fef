-- Entry points of one name, and ids behind the first operands. (For the code alone.)
use Rattle.std.specs.Prelude.{◌≡◌, ◌≤◌, ℕ, List, Some, slice_get}
use Rattle.spv_module.specs.Operand.{Plain, Id, PlainInst}
use Rattle.spv_declarations.specs.Entry.{named_by}

-- two instructions name one model and one name
pub record AreNamesakes (i j : PlainInst) : Type 0 where
  pub model : ℕ
  pub name : List ℕ
  pub one : named_by i ≡ Some (model, name)
  pub other : named_by j ≡ Some (model, name)

-- the operand of that number is an id behind the first two
abbrev pub IsIdAt : List Plain → ℕ → Type 0
IsIdAt os k = (2 ≤ k) × ((x : ℕ) × (slice_get os k ≡ Some (Id x)))
