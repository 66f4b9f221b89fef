-- The blocks that a block leads to. (For the code alone.)
use Rattle.std.specs.Prelude.{◌≡◌, ◌≤◌, ◌<◌, ◌+◌, ℕ, List, Some, length, slice_index, slice_get}
use Rattle.std.specs.Prelude.{slice_range, Contains}
use Rattle.spv_table.specs.Table.{Table}
use Rattle.spv_module.specs.Operand.{PlainInst}
use Rattle.spv_layout.specs.declared.form.Role.TheVariants.{Label}
use Rattle.spv_ids.specs.Definition.{IsUsedAt}
use Rattle.spv_flow.specs.branches.Target.{IsLabelOf}
use Rattle.spv_flow.specs.branches.Walk.{Next}
use Rattle.spv_graphs.specs.declared.graph.Block.{Block}
use Rattle.spv_graphs.specs.declared.graph.Graph.{Graph}
use Rattle.spv_flow.specs.declared.walks.code.Code.{Code}
use Rattle.spv_flow.specs.declared.walks.edges.Blocks.{Blocks}
use Rattle.spv_flow.specs.walks.inner.Code.{IsCode, insts_of}
use Rattle.spv_flow.specs.walks.inner.Starts.{IsLaid}

-- The blocks are those of the function.
pub record AreBlocks (is : List PlainInst) (b : Blocks) : Type 0 where
  pub laid : IsLaid is b.function b.end b.starts.now b.numbers.now
  pub count : length b.numbers.now ≡ length is

-- Operand n of instruction m is the label of block c.
pub record IsLabelAt (G : Table) (is : List PlainInst) (starts : List ℕ) (m n c : ℕ) : Type 0 where
  pub id : ℕ
  pub used : IsUsedAt G is m n id Label
  pub inside : c + 1 < length starts
  pub label : IsLabelOf is id (slice_index starts c)

-- Some operand is.
abbrev pub HasLabel : Table → List PlainInst → List ℕ → ℕ → ℕ → Type 0
HasLabel G is starts m c = (n : ℕ) × IsLabelAt G is starts m n c

-- Block c may come right after block b.
abbrev pub LeadsTo : Table → List PlainInst → List ℕ → ℕ → ℕ → Type 0
LeadsTo G is starts b c =
    (c + 1 < length starts)
    × ((n : ℕ) → n + 1 ≡ slice_index starts (b + 1) → Next G is n (slice_index starts c))

-- a block of the graph is that of the function
pub record IsBlockAt (c : Code) (starts : List ℕ) (graph : Graph) (b : ℕ) : Type 0 where
  pub block : Block
  pub there : slice_get graph.blocks.items b ≡ Some block
  pub first : block.first_value ≡ slice_index starts b
  pub end : block.end_value ≡ slice_index starts (b + 1)
  pub from : block.first_target ≤ block.end_target
  pub to : block.end_target ≤ length graph.targets.items
  pub sound : (G : Table) → IsCode G c → (t : ℕ)
      → Contains (slice_range graph.targets.items block.first_target block.end_target) t
      → LeadsTo G (insts_of c) starts b t
  pub complete : (G : Table) → IsCode G c → (t : ℕ) → LeadsTo G (insts_of c) starts b t
      → Contains (slice_range graph.targets.items block.first_target block.end_target) t

-- The first n blocks are in the graph.
pub record AreInGraph (c : Code) (starts : List ℕ) (graph : Graph) (n : ℕ) : Type 0 where
  pub count : length graph.blocks.items ≡ n
  pub each : (b : ℕ) → b < n → IsBlockAt c starts graph b
  pub within : (t : ℕ) → Contains graph.targets.items t → t + 1 < length starts
