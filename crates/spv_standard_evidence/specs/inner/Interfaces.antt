-- Uses of variables that are not in an interface, and the calls to them. (For the code alone.)
use Rattle.std.specs.Prelude.{◌≡◌, ◌<◌, ◌⊎◌, ◌↔◌, ◌∷◌, ℕ, List, Some, reverse, slice_get}
use Rattle.spv_table.specs.Table.{Table}
use Rattle.spv_module.specs.Operand.{Id, Plain, PlainInst}
use Rattle.spv_layout.specs.declared.form.Role.{Role}
use Rattle.spv_layout.specs.Shape.{IsUse}
use Rattle.spv_graphs.specs.declared.edge.Edge.{Edge}
use Rattle.spv_graphs.specs.Way.{HasEdge}
use Rattle.spv_flow.specs.calls.Calls.{Calls}
use Rattle.spv_flow.specs.calls.Chain.{Chain}
use Rattle.spv_interfaces.specs.inner.Uses.{IsInDefinition}
use Rattle.spv_interfaces.specs.inner.Wanted.{IsWanted}
use Rattle.spv_flow_evidence.specs.calls.Evidence.{IsCallChain, IsShortestOf}

-- one of the first operands of an interface is the id
abbrev pub IsBefore : List Plain → ℕ → ℕ → Type 0
IsBefore interface to x = (k : ℕ) × (k < to) × (slice_get interface k ≡ Some (Id x))

-- operand k of an interface is the id, which an operand before it is too
abbrev pub IsRepeated : List Plain → ℕ → ℕ → Type 0
IsRepeated interface k x = (slice_get interface k ≡ Some (Id x)) × IsBefore interface k x

-- The instruction uses the id, which has to be in an interface where it is used and is none of those that are named.
pub record Misses (G : Table) (minor : ℕ) (is : List PlainInst) (Named : ℕ → Type 0) (i : PlainInst) (x : ℕ)
    : Type 0 where
  pub operand : ℕ
  pub role : Role
  pub used : IsUse G i operand x role
  pub wanted : IsWanted minor is x
  pub unnamed : ¬ (Named x)

-- Instruction n is of the definition f, and misses the id.
pub record MissesIn (G : Table) (minor : ℕ) (is : List PlainInst) (Named : ℕ → Type 0) (n f x : ℕ) : Type 0 where
  pub within : IsInDefinition is n f
  pub inst : PlainInst
  pub there : slice_get is n ≡ Some inst
  pub misses : Misses G minor is Named inst x

-- One of the instructions before `to` is of the definition f, and misses some id.
pub record MissesBefore (G : Table) (minor : ℕ) (is : List PlainInst) (Named : ℕ → Type 0) (to f : ℕ) : Type 0 where
  pub place : ℕ
  pub below : place < to
  pub id : ℕ
  pub misses : MissesIn G minor is Named place f id

-- The new edges are the old ones, and one to the goal from each node of which something is so.
pub record AddsEdges (P : ℕ → Type 0) (goal : ℕ) (old new : List Edge) : Type 0 where
  pub each : (p b : ℕ) → HasEdge new p b ↔ (HasEdge old p b ⊎ ((b ≡ goal) × P p))

-- Calls lead from the root to a definition of which something is so.
pub record Reaches (is : List PlainInst) (P : ℕ → Type 0) (root : ℕ) : Type 0 where
  pub function : ℕ
  pub chain : Chain (Calls is) root function
  pub so : P function

-- The nodes are the functions of a chain of calls, as short as any, from the root to one of which something is so; and
-- the goal behind them.
pub record LeadsPast (is : List PlainInst) (P : ℕ → Type 0) (root goal : ℕ) (nodes : List ℕ) : Type 0 where
  pub last : ℕ
  pub rest : List ℕ
  pub listed : nodes ≡ reverse (goal ∷ last ∷ rest)
  pub shortest : IsShortestOf (IsCallChain is last root) (reverse (last ∷ rest))
  pub so : P last
