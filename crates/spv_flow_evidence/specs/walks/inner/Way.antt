-- The ways that the evidence tells of, and their OpLabels.
use Rattle.std.specs.Prelude.{◌++◌, ℕ, List, [], ◌∷◌, map, drop, slice_index}
use Rattle.spv_flow_evidence.specs.declared.walks.queries.Taking.{Taking}
use Rattle.spv_flow_evidence.specs.declared.walks.queries.Taking.TheVariants.{Uses, Pairs}

-- the way to the instruction's block: that which is asked of is it, or is one before
abbrev pub whole : Taking → ℕ → List ℕ → List ℕ
whole Uses b way = way
whole Pairs b way = way ++ b ∷ []

-- the first instructions of the blocks of a way but its first
abbrev pub labels_of : List ℕ → List ℕ → List ℕ
labels_of starts way = map (slice_index starts) (drop 1 way)
