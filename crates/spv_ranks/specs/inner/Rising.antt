-- Ids in order. (For the code alone.)
use Rattle.std.specs.Prelude.{◌≡◌, ◌<◌, ◌≤◌, ◌+◌, ℕ, List, length, slice_index}

-- the ids rise, so none comes twice
abbrev pub AreRising : List ℕ → Type 0
AreRising ids = (j k : ℕ) → j < k → k < length ids → slice_index ids j < slice_index ids k

-- An id is not there and would stand at place k: the one before is lower, and the one there greater.
pub record IsGap (ids : List ℕ) (x k : ℕ) : Type 0 where
  pub within : k ≤ length ids
  pub lower : (j : ℕ) → j + 1 ≡ k → slice_index ids j < x
  pub greater : k < length ids → x < slice_index ids k
