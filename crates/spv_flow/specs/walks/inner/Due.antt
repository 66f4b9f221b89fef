-- What is asked of the graph of a function. (For the code alone.)
use Rattle.std.specs.Prelude.{◌≡◌, ◌<◌, ◌≤◌, ◌+◌, ◌⊎◌, ℕ, List, Option, Some, None, length}
use Rattle.std.specs.Prelude.{slice_index}
use Rattle.spv_table.specs.Table.{Table}
use Rattle.spv_module.specs.Operand.{PlainInst}
use Rattle.spv_layout.specs.declared.form.Role.{Role}
use Rattle.spv_layout.specs.declared.form.Role.TheVariants.{Value, Label}
use Rattle.spv_ids.specs.Definition.{IsDefinedAt, IsUsedAt}
use Rattle.spv_graphs.specs.declared.queries.Query.{Query}
use Rattle.spv_flow.specs.branches.Target.{is_phi, is_label, IsOp, IsLabelOf}
use Rattle.spv_flow.specs.branches.Ready.{IsLocalValue}
use Rattle.spv_flow.specs.walks.inner.Divided.{IsIn}

-- An id that operand n of instruction m uses is defined there; or, where nothing was found, nowhere.
abbrev pub IsFoundAt : Table → List PlainInst → ℕ → ℕ → Option ℕ → Type 0
IsFoundAt G is m n None = (x d : ℕ) (r : Role) → IsUsedAt G is m n x r → ¬ (IsDefinedAt is x d)
IsFoundAt G is m n (Some d) = (x : ℕ) (r : Role) → IsUsedAt G is m n x r → IsDefinedAt is x d

-- Operand n of instruction m uses the value of a local definition; or, where nothing was found, no local value.
abbrev pub IsPairedAt : Table → List PlainInst → ℕ → ℕ → Option ℕ → Type 0
IsPairedAt G is m n None = (x : ℕ) → IsUsedAt G is m n x Value → ¬ (IsLocalValue is x)
IsPairedAt G is m n (Some d) = (x : ℕ) × IsUsedAt G is m n x Value × IsLocalValue is x × IsDefinedAt is x d

-- The id is no local value, or an instruction from n on and before m defines it.
abbrev pub IsSettled : List PlainInst → ℕ → ℕ → ℕ → Type 0
IsSettled is x n m = ¬ (IsLocalValue is x) ⊎ ((d : ℕ) × (n ≤ d) × (d < m) × IsDefinedAt is x d)

-- Operand n of instruction m of block b uses a value, of which the definition does not stand before m in the block.
pub record IsUseQuery (G : Table) (is : List PlainInst) (starts : List ℕ) (b m n : ℕ) (a : Query) : Type 0 where
  pub block : a.block ≡ b
  pub step : a.step ≡ m
  pub id : ℕ
  pub role : Role
  pub used : IsUsedAt G is m n id role
  pub local : IsLocalValue is id
  pub defined : IsDefinedAt is id a.value
  pub apart : ¬ ((slice_index starts b ≤ a.value) × (a.value < m))

-- Operands n and n + 1 of instruction m pair a value with the label of a block, in which its definition does not stand.
pub record IsPairQuery (G : Table) (is : List PlainInst) (starts : List ℕ) (m n : ℕ) (a : Query) : Type 0 where
  pub inside : a.block + 1 < length starts
  pub step : a.step ≡ m
  pub value : ℕ
  pub paired : IsUsedAt G is m n value Value
  pub id : ℕ
  pub named : IsUsedAt G is m (n + 1) id Label
  pub label : IsLabelOf is id (slice_index starts a.block)
  pub local : IsLocalValue is value
  pub defined : IsDefinedAt is value a.value
  pub apart : ¬ (IsIn starts a.block a.value)

-- What is asked for instruction m of block b.
abbrev pub HasUseQuery : Table → List PlainInst → List ℕ → ℕ → ℕ → Query → Type 0
HasUseQuery G is starts b m a = (n : ℕ) × IsUseQuery G is starts b m n a

abbrev pub HasPairQuery : Table → List PlainInst → List ℕ → ℕ → Query → Type 0
HasPairQuery G is starts m a = (n : ℕ) × IsPairQuery G is starts m n a

abbrev pub IsQueryAt : Table → List PlainInst → List ℕ → ℕ → ℕ → Query → Type 0
IsQueryAt G is starts b m a =
    (¬ (IsOp is m is_phi) × HasUseQuery G is starts b m a)
    ⊎ (IsOp is m is_phi × IsOp is (slice_index starts b) is_label × HasPairQuery G is starts m a)

-- What is asked for an instruction of the block, and of the function.
abbrev pub IsQueryIn : Table → List PlainInst → List ℕ → ℕ → Query → Type 0
IsQueryIn G is starts b a = (m : ℕ) × IsIn starts b m × IsQueryAt G is starts b m a

abbrev pub IsQuery : Table → List PlainInst → List ℕ → Query → Type 0
IsQuery G is starts a = (b : ℕ) × IsQueryIn G is starts b a
