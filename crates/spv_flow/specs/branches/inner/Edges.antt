-- Chains of links, one for each target. (For the code alone.)
use Rattle.std.specs.Prelude.{◌≡◌, ◌≤◌, ◌<◌, ◌+◌, ◌⊎◌, ℕ, List, Some, length, slice_get}
use Rattle.std.specs.Prelude.{slice_index, slice_index_or, Bool, false}
use Rattle.spv_flow.specs.declared.branches.edges.Link.{Link}
use Rattle.spv_flow.specs.declared.branches.edges.Edges.{Edges}

-- A source stands in the chain that begins at a head: one more than the place of its first link, 0 where it is empty.
pub data InChain (links : List Link) : ℕ → ℕ → Type 0 where
  here : (h k : ℕ) (l : Link) → h ≡ k + 1 → slice_get links k ≡ Some l → InChain links h l.source
  later : (h k p : ℕ) (l : Link) → h ≡ k + 1 → slice_get links k ≡ Some l → InChain links l.next p
      → InChain links h p

-- each link goes on with a link before it, and all are there
pub record AreEdges (links : List Link) (heads : List ℕ) : Type 0 where
  pub next : (k : ℕ) (l : Link) → slice_get links k ≡ Some l → l.next ≤ k
  pub source : (k : ℕ) (l : Link) → slice_get links k ≡ Some l → l.source < length heads
  pub tops : (b : ℕ) → slice_index heads b ≤ length links

abbrev pub IsEdges : Edges → Type 0
IsEdges e = AreEdges e.links.items e.heads.items

-- an edge leads from block p to block b
abbrev pub Leading : List Link → List ℕ → ℕ → ℕ → Type 0
Leading links heads p b = InChain links (slice_index heads b) p

abbrev pub HasEdge : Edges → ℕ → ℕ → Type 0
HasEdge e p b = Leading e.links.items e.heads.items p b

-- whether a block is marked
abbrev pub marked : List Bool → ℕ → Bool
marked marks p = slice_index_or marks p false

-- there is one edge more
pub record AddsLink (links : List Link) (heads : List ℕ) (new : List Link) (above : List ℕ)
    (p b : ℕ) : Type 0 where
  pub edges : AreEdges new above
  pub count : length above ≡ length heads
  pub kept : (q c : ℕ) → Leading links heads q c → Leading new above q c
  pub added : Leading new above p b
  pub only : (q c : ℕ) → Leading new above q c → (Leading links heads q c) ⊎ ((q ≡ p) × (c ≡ b))

abbrev pub AddsEdge : Edges → Edges → ℕ → ℕ → Type 0
AddsEdge old new p b = AddsLink old.links.items old.heads.items new.links.items new.heads.items p b
