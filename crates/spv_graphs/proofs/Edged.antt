-- The edges of a graph, and its paths as ways along them.
use Rattle.std.proofs.Common.{◌≡◌, ◌<◌, ◌≤◌, ◌+◌, ◌++◌, ◌∙◌, ◌⊎◌, ℕ, zero, suc, List, [], ◌∷◌, Bool, true, false, Option, Some, None, Vec, Global, map, refl, sym, ap, subst, inl, inr, length, arith}
use Rattle.std.specs.Prelude.{Contains, nat_le, nat_lt, ◌&&◌, slice_get, option_map, MatchOption}
use Rattle.std.proofs.lemmas.Bool.{cases_lt}
use Rattle.std.proofs.lemmas.Bool.Decides.{nat_tests}
use Rattle.std.proofs.lemmas.Option.{slice_get-map, slice_get_within, slice_get_read, get_or_from_slice_get}
use Rattle.std.proofs.lemmas.List.Elements.{All-contains, Contains-append_left, Contains-append_right, Contains-append_cases}
use Rattle.spv_graphs.specs.declared.graph.Graph.{Graph}
use Rattle.spv_graphs.specs.declared.graph.Block.{Block}
use Rattle.spv_graphs.specs.Graph.{block_count, targets_of, Defines, IsGraph}
use Rattle.spv_graphs.specs.Path.{IsPath, IsDefinedOn, IsAvailable}
use Rattle.spv_graphs.proofs.Targets.{targets_are}
use Rattle.spv_graphs.specs.declared.edge.Edge.{Edge}
use Rattle.spv_graphs.specs.Way.{HasEdge, IsWay, IsShortest, AreWithin}
use Rattle.spv_graphs.specs.inner.Edges.{edge, AreEdges, defines}
use Rattle.spv_graphs.specs.inner.Edges.{IsShortestPast}

module _ {A : Type 0} where
  there : (xs : List A) (x : A) → Contains xs x → (k : ℕ) × (slice_get xs k ≡ Some x)
  there xs x (k, lt, e) = (k, slice_get_read xs (length xs) k x refl lt (sym e))

  found : (xs : List A) (k : ℕ) (x : A) → slice_get xs k ≡ Some x → Contains xs x
  found xs k x h = (k, slice_get_within xs k x h, get_or_from_slice_get xs k x x h)

  none_there : (x : A) → ¬ (Contains [] x)
  none_there x (k, lt, e) = absurd (omega (arith, lt))

module _ {A : Type 0} {B : Type 0} where
  mapped : (f : A → B) (xs : List A) (x : A) → Contains xs x → Contains (map f xs) (f x)
  mapped f [] x h = absurd (none_there x h)
  mapped f (y ∷ xs) x (zero, lt, e) = (zero, omega arith, ap f e)
  mapped f (y ∷ xs) x (suc k, lt, e) =
      let r = mapped f xs x (k, omega (arith, lt), e) in
      let l = r.1 in
      (suc r.0, omega (arith, l), r.2)

  from_mapped : (f : A → B) (xs : List A) (y : B) → Contains (map f xs) y → (x : A) × Contains xs x × (f x ≡ y)
  from_mapped f [] y h = absurd (none_there y h)
  from_mapped f (x ∷ xs) y (zero, lt, e) = (x, (zero, omega arith, refl), e)
  from_mapped f (x ∷ xs) y (suc k, lt, e) =
      let r = from_mapped f xs y (k, omega (arith, lt), e) in
      (r.0, (suc r.1.0, (let l = r.1.1 in omega (arith, l)), r.1.2), r.2)

-- Block by block.

pub edges_none : (graph : Graph) → AreEdges graph 0 []
edges_none graph = record {
  sound = λ e h. absurd (none_there e h);
  complete = λ b t lt h. absurd (omega (arith, lt));
}

pub edges_more : (graph : Graph) (n : ℕ) (edges : List Edge) → AreEdges graph n edges
    → AreEdges graph (n + 1) (edges ++ map (edge n) (targets_of graph n))
edges_more graph n edges before =
    let more : List Edge = map (edge n) (targets_of graph n) in
    record {
      sound = λ e h. elim (Contains-append_cases edges more e h) [
        | inl old ↦ (let s = before.sound e old in ((let l = s.0 in omega (arith, l)), s.1))
        | inr new ↦ (
            let m = from_mapped (edge n) (targets_of graph n) e new in
            let P : Edge → Type 0 = λ x. (x.from < n + 1) × Contains (targets_of graph x.from) x.to in
            subst P m.2 (omega arith, m.1))
      ];
      complete = λ b t lt h. elim (cases_lt b n) [
        | inl less ↦ Contains-append_left edges more (edge b t) (before.complete b t less h)
        | inr last ↦ (
            let e : n ≡ b = omega (arith, lt, last) in
            let here : Contains more (edge n t) =
            mapped (edge n) (targets_of graph n) t (subst (λ (j : ℕ). Contains (targets_of graph j) t) (sym e) h) in
            Contains-append_right edges more (edge b t) (subst (λ (j : ℕ). Contains more (edge j t)) e here))
      ];
    }

pub edges_within : (graph : Graph) (edges : List Edge) (n : ℕ) → IsGraph graph
    → AreEdges graph (block_count graph) edges → n ≡ block_count graph → AreWithin n edges
edges_within graph edges n g are l = record {
  each = λ k e h. (
      let s = are.sound e (found edges k e h) in
      let from = s.0 in
      let to = All-contains (λ (t : ℕ). t < block_count graph) (targets_of graph e.from) e.to
      (targets_are graph g e.from) s.1 in
      (omega (arith, from, l), omega (arith, to, l)));
}

-- Whether a block defines a value.

test_true : (a b v : ℕ) → a ≤ v → v < b → nat_le a v && nat_lt v b ≡ true
test_true a b v from to = grind (arith, nat_tests)

test_from : (a b v : ℕ) → nat_le a v && nat_lt v b ≡ true → a ≤ v
test_from a b v h = grind (arith, nat_tests)

test_to : (a b v : ℕ) → nat_le a v && nat_lt v b ≡ true → v < b
test_to a b v h = grind (arith, nat_tests)

pub undefined_open : (graph : Graph) (v b : ℕ) → slice_get (map (defines v) graph.blocks.items) b ≡ Some false
    → ¬ (Defines graph b v)
undefined_open graph v b h d =
    let t = test_true d.block.first_value d.block.end_value v d.from d.to in
    let e : slice_get (map (defines v) graph.blocks.items) b ≡ Some (defines v d.block) =
    slice_get-map (defines v) graph.blocks.items b ∙ ap (option_map (defines v)) d.there in
    cc

some_block : (blocks : List Block) (b : ℕ) → b < length blocks → (s : Block) × (slice_get blocks b ≡ Some s)
some_block [] b lt = absurd (omega (arith, lt))
some_block (s ∷ blocks) zero lt = (s, refl)
some_block (s ∷ blocks) (suc b) lt = some_block blocks b (omega (arith, lt))

open_by : (graph : Graph) (v b : ℕ) (s : Block) (t : Bool) → slice_get graph.blocks.items b ≡ Some s → defines v s ≡ t
    → ¬ (Defines graph b v) → defines v s ≡ false
open_by graph v b s true h e not = absurd (not (record {
  block = s;
  there = h;
  from = test_from s.first_value s.end_value v e;
  to = test_to s.first_value s.end_value v e;
}))
open_by graph v b s false h e not = e

pub open_undefined : (graph : Graph) (v b : ℕ) → b < block_count graph → ¬ (Defines graph b v)
    → slice_get (map (defines v) graph.blocks.items) b ≡ Some false
open_undefined graph v b lt not =
    let s = some_block graph.blocks.items b lt in
    let e = open_by graph v b s.0 (defines v s.0) s.1 refl not in
    slice_get-map (defines v) graph.blocks.items b ∙ ap (option_map (defines v)) s.1 ∙ ap (λ (t : Bool). Some t) e

-- A path on which a value is not defined is a way, and a way is such a path.

pub way_of : (graph : Graph) (v : ℕ) (edges : List Edge) → AreEdges graph (block_count graph) edges
    → (past : List ℕ) (b : ℕ) → IsPath graph past b → ¬ (IsDefinedOn graph past v)
    → IsWay edges (0 ∷ []) (map (defines v) graph.blocks.items) past b
way_of graph v edges are [] b path not = (0, omega arith, sym path)
way_of graph v edges are (h ∷ past) b path not =
    let e = there edges (edge h b) (are.complete h b path.0 path.1) in (
      record { place = e.0; edge = edge h b; there = e.1; from = refl; to = refl },
      open_undefined graph v h path.0 (λ d. not (inl d)),
      way_of graph v edges are past h path.2 (λ on. not (inr on)),
    )

only_start : (b : ℕ) → Contains (0 ∷ []) b → b ≡ 0
only_start b (zero, lt, e) = sym e
only_start b (suc k, lt, e) = absurd (omega (arith, lt))

leads : (graph : Graph) (edges : List Edge) → AreEdges graph (block_count graph) edges → (h b : ℕ) → HasEdge edges h b
    → (h < block_count graph) × Contains (targets_of graph h) b
leads graph edges are h b e =
    let s = are.sound e.edge (found edges e.place e.edge e.there) in
    let from = e.from in
    let l = s.0 in (
      omega (arith, l, from),
      subst (λ (j : ℕ). Contains (targets_of graph h) j) e.to
          (subst (λ (j : ℕ). Contains (targets_of graph j) e.edge.to) from s.1),
    )

pub path_of : (graph : Graph) (v : ℕ) (edges : List Edge) → AreEdges graph (block_count graph) edges
    → (past : List ℕ) (b : ℕ) → IsWay edges (0 ∷ []) (map (defines v) graph.blocks.items) past b → IsPath graph past b
path_of graph v edges are [] b way = only_start b way
path_of graph v edges are (h ∷ past) b way =
    let l = leads graph edges are h b way.0 in
    (l.0, l.1, path_of graph v edges are past h way.2)

pub undefined_of : (graph : Graph) (v : ℕ) (edges : List Edge) (past : List ℕ) (b : ℕ)
    → IsWay edges (0 ∷ []) (map (defines v) graph.blocks.items) past b → ¬ (IsDefinedOn graph past v)
undefined_of graph v edges [] b way on = on
undefined_of graph v edges (h ∷ past) b way (inl here) = undefined_open graph v h way.1 here
undefined_of graph v edges (h ∷ past) b way (inr later) = undefined_of graph v edges past h way.2 later

pub shortest_past : (graph : Graph) (v b : ℕ) (edges : List Edge) (ys : List Bool) (way : List ℕ)
    → AreEdges graph (block_count graph) edges → ys ≡ map (defines v) graph.blocks.items
    → IsShortest edges (0 ∷ []) ys b way → IsShortestPast graph v b way
shortest_past graph v b edges ys way are f h =
    let s = subst (λ (zs : List Bool). IsShortest edges (0 ∷ []) zs b way) f h in
    record {
      past = s.past;
      path = path_of graph v edges are s.past b s.way;
      undefined = undefined_of graph v edges s.past b s.way;
      blocks = s.listed;
      least = λ other path not. s.least other (way_of graph v edges are other b path not);
    }

-- Where there is no way, the value is available.

by_test : (graph : Graph) (v b : ℕ) (s : Block) (t : Bool) → slice_get graph.blocks.items b ≡ Some s → defines v s ≡ t
    → Defines graph b v ⊎ ¬ (Defines graph b v)
by_test graph v b s true h e = inl (record {
  block = s;
  there = h;
  from = test_from s.first_value s.end_value v e;
  to = test_to s.first_value s.end_value v e;
})
by_test graph v b s false h e =
    let f = slice_get-map (defines v) graph.blocks.items b ∙ ap (option_map (defines v)) h
    ∙ ap (λ (t : Bool). Some t) e in
    inr (undefined_open graph v b f)

by_block : (graph : Graph) (v b : ℕ) (o : Option Block) → slice_get graph.blocks.items b ≡ o
    → Defines graph b v ⊎ ¬ (Defines graph b v)
by_block graph v b None h = inr (λ d. let there = d.there in cc)
by_block graph v b (Some s) h = by_test graph v b s (defines v s) h refl

defined_or_not : (graph : Graph) (v : ℕ) (past : List ℕ) → IsDefinedOn graph past v ⊎ ¬ (IsDefinedOn graph past v)
defined_or_not graph v [] = inr (λ h. h)
defined_or_not graph v (b ∷ past) = elim (by_block graph v b (slice_get graph.blocks.items b) refl) [
  | inl here ↦ inl (inl here)
  | inr not ↦ elim (defined_or_not graph v past) [
    | inl before ↦ inl (inr before)
    | inr never ↦ inr (λ h. elim h [ inl here ↦ not here | inr before ↦ never before ])
  ]
]

pub available_by : (graph : Graph) (v b : ℕ) (edges : List Edge) (ys : List Bool)
    → AreEdges graph (block_count graph) edges → ys ≡ map (defines v) graph.blocks.items
    → ((past : List ℕ) → ¬ (IsWay edges (0 ∷ []) ys past b)) → IsAvailable graph v b
available_by graph v b edges ys are f none past path = elim (defined_or_not graph v past) [
  | inl on ↦ on
  | inr not ↦ (
      let way = way_of graph v edges are past b path not in
      absurd (none past (subst (λ (zs : List Bool). IsWay edges (0 ∷ []) zs past b) (sym f) way)))
]

pub past_or_not : (graph : Graph) (v b : ℕ) (edges : List Edge) (ys : List Bool)
    → AreEdges graph (block_count graph) edges → ys ≡ map (defines v) graph.blocks.items → (o : Option (Vec ℕ Global))
    → MatchOption o ((past : List ℕ) → ¬ (IsWay edges (0 ∷ []) ys past b))
    (λ w. IsShortest edges (0 ∷ []) ys b w.items)
    → MatchOption o (IsAvailable graph v b) (λ w. IsShortestPast graph v b w.items)
past_or_not graph v b edges ys are f None h = available_by graph v b edges ys are f h
past_or_not graph v b edges ys are f (Some w) h = shortest_past graph v b edges ys w.items are f h
