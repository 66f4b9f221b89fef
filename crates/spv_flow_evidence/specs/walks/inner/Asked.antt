-- What is asked for the operands of one instruction.
use Rattle.std.specs.Prelude.{◌<◌, ℕ, List, Option, Contains, MatchOption}
use Rattle.spv_table.specs.Table.{Table}
use Rattle.spv_module.specs.Operand.{PlainInst}
use Rattle.spv_graphs.specs.declared.graph.Graph.{Graph}
use Rattle.spv_graphs.specs.declared.queries.Query.{Query}
use Rattle.spv_graphs.specs.Path.{IsUnavailable}
use Rattle.spv_flow.specs.branches.Ready.{IsMissing, IsPairMissing}
use Rattle.spv_flow.specs.walks.inner.Due.{IsUseQuery, IsPairQuery}
use Rattle.spv_flow_evidence.specs.declared.walks.queries.Taking.{Taking}
use Rattle.spv_flow_evidence.specs.declared.walks.queries.Taking.TheVariants.{Uses, Pairs}

-- What is asked for operand k of instruction n of block b.
abbrev pub IsQueryOf : Table → List PlainInst → List ℕ → Taking → ℕ → ℕ → ℕ → Query → Type 0
IsQueryOf G is starts Uses b n k a = IsUseQuery G is starts b n k a
IsQueryOf G is starts Pairs b n k a = IsPairQuery G is starts n k a

-- what there is of it; nothing where nothing is asked
abbrev pub IsQueryFound : Table → List PlainInst → List ℕ → Taking → ℕ → ℕ → ℕ → Option Query
    → Type 0
IsQueryFound G is starts t b n k o =
    MatchOption o ((a : Query) → ¬ (IsQueryOf G is starts t b n k a)) (λ a. IsQueryOf G is starts t b n k a)

-- A walk to instruction n misses a value that it takes.
abbrev pub MissesValue : Table → List PlainInst → Taking → ℕ → Type 0
MissesValue G is Uses n = IsMissing G is n
MissesValue G is Pairs n = IsPairMissing G is n

-- the query with that number for its step
abbrev pub numbered : Query → ℕ → Query
numbered a k = record { block = a.block; value = a.value; step = k }

-- The queries are those for the operands of instruction n before operand `end`, with the operand's number for the step.
pub record AreAsked (G : Table) (is : List PlainInst) (starts : List ℕ) (t : Taking) (b n end : ℕ)
    (queries : List Query)
    : Type 0 where
  pub sound : (a : Query) → Contains queries a → IsQueryOf G is starts t b n a.step (numbered a n)
  pub complete : (k : ℕ) (a : Query) → k < end → IsQueryOf G is starts t b n k a
      → Contains queries (numbered a k)

-- The query for an operand of instruction n, with the operand's number for the step, is for a value that is
-- unavailable.
pub record IsUnavailableQuery (G : Table) (is : List PlainInst) (starts : List ℕ) (graph : Graph) (t : Taking)
    (b n : ℕ)
    (a : Query) : Type 0 where
  pub asked : IsQueryOf G is starts t b n a.step (numbered a n)
  pub unavailable : IsUnavailable graph a.value a.block
