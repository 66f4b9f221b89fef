-- Which items of a pattern may be absent. (For the code alone.)
use Rattle.std.specs.Prelude.{◌≢◌, ◌+◌, ◌<◌, ◌≤◌, ℕ, List, length, slice_index_or}
use Rattle.spv_table.specs.declared.table.Item as declared
use Rattle.spv_table.specs.declared.table.Quantifier.TheVariants.{One}

-- so many items at the end are optional
abbrev pub EndsOptional : ℕ → List declared.Item → Type 0
EndsOptional n is =
    (k : ℕ) (d : declared.Item) → length is ≤ k + n → k < length is → (slice_index_or is k d).quantifier ≢ One
