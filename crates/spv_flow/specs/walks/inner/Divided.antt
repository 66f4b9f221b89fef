-- A function divided into blocks, and the graph of these blocks. (Own; for the code alone.)
use Rattle.std.specs.Prelude.{◌≡◌, ◌↔◌, ◌≤◌, ◌<◌, ◌+◌, ◌⊎◌, ℕ, List, length}
use Rattle.std.specs.Prelude.{slice_index, Contains}
use Rattle.spv_table.specs.Table.{Table}
use Rattle.spv_module.specs.Operand.{PlainInst}
use Rattle.spv_layout.specs.Place.{IsOfFunction}
use Rattle.spv_graphs.specs.declared.graph.Graph.{Graph}
use Rattle.spv_graphs.specs.Graph.{block_count, targets_of, Defines}
use Rattle.spv_flow.specs.branches.Target.{is_label, IsOp}
use Rattle.spv_flow.specs.branches.inner.Target.{is_function, is_terminator}
use Rattle.spv_flow.specs.branches.Walk.{Next}

-- `starts` are the first instruction of each block, and at last the one after the function's last. Instruction n is of
-- block b.
pub record IsIn (starts : List ℕ) (b n : ℕ) : Type 0 where
  pub block : b + 1 < length starts
  pub from : slice_index starts b ≤ n
  pub to : n < slice_index starts (b + 1)

-- a block begins at an OpLabel, or after a terminator
abbrev pub IsBegin : List PlainInst → ℕ → Type 0
IsBegin is n = IsOp is n is_label ⊎ ((m : ℕ) × (m + 1 ≡ n) × IsOp is m is_terminator)

-- The function whose OpFunction is f is divided into blocks: one begins at the OpFunction, one at each OpLabel, and one
-- after each terminator.
pub record IsDivided (is : List PlainInst) (f : ℕ) (starts : List ℕ) : Type 0 where
  pub function : IsOp is f is_function
  pub some : 2 ≤ length starts
  pub first : slice_index starts 0 ≡ f
  pub order : (j k : ℕ) → j < k → k < length starts → slice_index starts j < slice_index starts k
  -- the instructions of the blocks are those of the function
  pub of : (b n : ℕ) → IsIn starts b n → IsOfFunction is n f
  pub all : (n : ℕ) → IsOfFunction is n f → (b : ℕ) × IsIn starts b n
  -- the first of a block begins one, and no other does
  pub begun : (b : ℕ) → 0 < b → b + 1 < length starts → IsBegin is (slice_index starts b)
  pub inner : (b n : ℕ) → IsIn starts b n → IsIn starts b (n + 1) → ¬ (IsBegin is (n + 1))

-- The graph is that of the blocks: the values that a block defines are its instructions, and it leads to those whose
-- first instruction may come right after its last.
pub record IsGraphOf (G : Table) (is : List PlainInst) (f : ℕ) (starts : List ℕ) (graph : Graph) : Type 0 where
  pub divided : IsDivided is f starts
  pub count : length starts ≡ block_count graph + 1
  pub values : (b v : ℕ) → Defines graph b v ↔ IsIn starts b v
  pub targets : (b c n : ℕ) → IsIn starts b n → n + 1 ≡ slice_index starts (b + 1)
      → Contains (targets_of graph b) c ↔ ((c + 1 < length starts) × Next G is n (slice_index starts c))
