-- What `number` answers of a module whose places are known. (For the code alone.)
use Rattle.std.specs.Prelude.{◌≡◌, ◌<◌, ℕ, List, length, slice_index}
use Rattle.spv_ids.specs.declared.ids.Ids.{Ids}
use Rattle.spv_ids.specs.Outcome.{definition_in}
use Rattle.spv_ids.specs.inner.Notes.{number_in}
pub use Rattle.spv_layout.specs.inner.Outcome.{IsStopAt}

-- the list that the definitions begin with
abbrev pub near_in : Ids → List ℕ
near_in ids = ids.definitions.near.items

-- At an id's place the list has 0, or one more than the number of its definition.
abbrev pub IsNear : Ids → List ℕ → Type 0
IsNear ids near = (x : ℕ) → x < length near → definition_in ids x ≡ number_in (slice_index near x)
