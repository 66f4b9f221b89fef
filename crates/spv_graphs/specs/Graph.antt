-- What a graph of blocks has: of each block, by number, the blocks that may come after it, and the values that it
-- defines.
use Rattle.std.specs.Prelude.{◌≡◌, ◌≤◌, ◌<◌, ℕ, List, [], Some, length, slice_get}
use Rattle.std.specs.Prelude.{slice_range, unwrap_or, option_map, All}
use Rattle.spv_graphs.specs.declared.graph.Block.{Block}
use Rattle.spv_graphs.specs.declared.graph.Graph.{Graph}

-- how many blocks a graph may have
abbrev pub most_blocks : ℕ
most_blocks = 4194304

abbrev pub block_count : Graph → ℕ
block_count graph = length graph.blocks.items

-- the blocks that may come after a block; after what is no block none
unfoldable pub targets_of : Graph → ℕ → List ℕ
targets_of graph b =
    unwrap_or
    (option_map (λ s. slice_range graph.targets.items s.first_target s.end_target) (slice_get graph.blocks.items b)) []

-- A block defines a value: one of a range of numbers.
pub record Defines (graph : Graph) (b v : ℕ) : Type 0 where
  pub block : Block
  pub there : slice_get graph.blocks.items b ≡ Some block
  pub from : block.first_value ≤ v
  pub to : v < block.end_value

-- There is a first block, there are at most `most_blocks`, the ranges of targets are there, and each target is a block.
pub record IsGraph (graph : Graph) : Type 0 where
  pub some : 0 < block_count graph
  pub few : block_count graph ≤ most_blocks
  pub ranges : All (λ s. (s.first_target ≤ s.end_target) × (s.end_target ≤ length graph.targets.items))
      graph.blocks.items
  pub targets : All (λ t. t < block_count graph) graph.targets.items
