-- What the queries of a function's graph tell of the walks of the function.
use Rattle.std.proofs.Common.{◌≡◌, ◌==◌, ◌<◌, ◌≤◌, ◌⊎◌, ◌+◌, ◌-◌, ◌∙◌, ℕ, List, [], ◌∷◌, Bool, true, refl, sym, ap}
use Rattle.std.proofs.Common.{subst, inl, inr, length, Option, Some, None, arith}
use Rattle.std.specs.Prelude.{Contains, ◌++◌, slice_get, slice_index, slice_index_or, slice_range}
use Rattle.std.proofs.lemmas.Bool.{cases_lt, eqb-true}
use Rattle.std.proofs.lemmas.Option.{slice_get_within, slice_get_read, slice_get-get_or, get_or_from_slice_get}
use Rattle.std.proofs.lemmas.List.{length-map}
use Rattle.std.proofs.lemmas.List.Elements.{All-contains_itself}
use Rattle.spv_table.specs.Table.{Table}
use Rattle.spv_module.specs.Operand.{PlainInst}
use Rattle.spv_module.specs.Module.{plain_inst}
use Rattle.spv_layout.specs.Place.{IsOfFunction, AreFew}
use Rattle.spv_ids.specs.Definition.{IsDefinedAt}
use Rattle.spv_graphs.specs.declared.graph.Graph.{Graph}
use Rattle.spv_graphs.specs.declared.graph.Block.{Block}
use Rattle.spv_graphs.specs.declared.queries.Query.{Query}
use Rattle.spv_graphs.specs.Graph.{targets_of, IsGraph}
use Rattle.spv_graphs.specs.Path.{IsAvailable, IsUnavailable}
use Rattle.spv_graphs.specs.First.{AreOfBlocks, IsFirstUnavailable}
use Rattle.spv_flow.specs.branches.Target.{is_label, is_phi, IsOp, IsLabelOf}
use Rattle.spv_flow.specs.branches.Walk.{Next, IsWalk}
use Rattle.spv_flow.specs.branches.Ready.{IsMissing, IsPairMissing}
use Rattle.spv_flow.specs.declared.walks.code.Code.{Code}
use Rattle.spv_flow.specs.declared.walks.edges.Blocks.{Blocks}
use Rattle.spv_flow.specs.walks.inner.Code.{insts_of, IsCode}
use Rattle.spv_flow.specs.walks.inner.Adds.{AddsBy}
use Rattle.spv_flow.specs.walks.inner.Divided.{IsIn, IsDivided, IsGraphOf}
use Rattle.spv_flow.specs.walks.inner.Leading.{AreBlocks, AreInGraph}
use Rattle.spv_flow.specs.walks.inner.Due.{IsUseQuery, IsPairQuery, IsQuery}
use Rattle.spv_flow.specs.walks.inner.Unavailable.{IsUnavailableIn, IsFirstIn}
use Rattle.spv_flow.proofs.lemmas.walks.Coded.{one_place}
use Rattle.spv_flow.proofs.lemmas.walks.Places.{of_itself}
use Rattle.spv_flow.proofs.lemmas.walks.Starting.{few_blocks}
use Rattle.spv_flow.proofs.lemmas.walks.Walking.{first_in, use_ready, use_missing, came_by}
use Rattle.spv_flow.proofs.lemmas.walks.Pairs.{target_label, came_from, pair_ready, pair_missing}
use Rattle.spv_flow.proofs.lemmas.walks.Parents.{parents_lead}

-- the graph is that of the function

same_block : (bs : List Block) (b : ℕ) (s t : Block) → slice_get bs b ≡ Some s → slice_get bs b ≡ Some t → s ≡ t
same_block bs b s t g h = cc

targets_at : (graph : Graph) (b : ℕ) (s : Block) → slice_get graph.blocks.items b ≡ Some s
    → targets_of graph b ≡ slice_range graph.targets.items s.first_target s.end_target
unfolding targets_of
targets_at graph b s there = rw there refl

pub graph_of : (G : Table) (c : Code) (b : Blocks) (graph : Graph) → IsCode G c → AreBlocks (insts_of c) b
    → AreInGraph c b.starts.now graph (length b.starts.now - 1) → IsGraphOf G (insts_of c) b.function b.starts.now graph
graph_of G c b graph is are a =
    let starts = b.starts.now in
    let count = a.count in
    let some = are.laid.divided.some in
    record {
      divided = are.laid.divided;
      count = omega (arith, count, some);
      values = λ k v. (
        λ d. (
            let lt = slice_get_within graph.blocks.items k d.block d.there in
            let h = a.each k (omega (arith, lt, count)) in
            let e = same_block graph.blocks.items k d.block h.block d.there h.there in
            let first : d.block.first_value ≡ slice_index starts k = ap (λ (s : Block). s.first_value) e ∙ h.first in
            let end : d.block.end_value ≡ slice_index starts (k + 1) = ap (λ (s : Block). s.end_value) e ∙ h.end in
            let from = d.from in
            let to = d.to in
            record {
              block = omega (arith, lt, count);
              from = omega (arith, from, first);
              to = omega (arith, to, end);
            }),
        λ i. (
            let w = i.block in
            let h = a.each k (omega (arith, w)) in
            let first = h.first in
            let end = h.end in
            let from = i.from in
            let to = i.to in
            record {
              block = h.block;
              there = h.there;
              from = omega (arith, from, first);
              to = omega (arith, to, end);
            }),
      );
      targets = λ k t n i e. (
          let w = i.block in
          let h = a.each k (omega (arith, w)) in
          let r = targets_at graph k h.block h.there in (
            λ there. (let l = h.sound G is t (subst (λ (xs : List ℕ). Contains xs t) r there) in (l.0, l.1 n e)),
            λ l. subst (λ (xs : List ℕ). Contains xs t) (sym r) (h.complete G is t (
              l.0,
              λ m f. (
                  let same : n ≡ m = omega (arith, e, f) in
                  subst (λ (j : ℕ). Next G (insts_of c) j (slice_index starts t)) same l.1),
            )),
          ));
    }

pub is_graph : (c : Code) (b : Blocks) (graph : Graph) → AreFew c.insts.now → AreBlocks (insts_of c) b
    → AreInGraph c b.starts.now graph (length b.starts.now - 1) → IsGraph graph
is_graph c b graph most are a =
    let starts = b.starts.now in
    let count = a.count in
    let some = are.laid.divided.some in
    let few = few_blocks (insts_of c) b.function b.end starts b.numbers.now are.laid in
    let within = are.laid.extent.within in
    let l = length-map c.insts.now plain_inst in
    record {
      some = omega (arith, count, some);
      few = omega (arith, count, few, within, l, most);
      ranges = λ k d lt. (
          let h = a.each k (omega (arith, lt, count)) in
          let g = slice_get-get_or graph.blocks.items k d lt in
          let e : h.block ≡ slice_index_or graph.blocks.items k d = same_block graph.blocks.items k h.block
          (slice_index_or graph.blocks.items k d) h.there g in
          subst (λ (s : Block). (s.first_target ≤ s.end_target) × (s.end_target ≤ length graph.targets.items)) e
          (h.from, h.to));
      targets = λ k d lt. (let h = a.within (slice_index_or graph.targets.items k d)
          (All-contains_itself graph.targets.items k d lt) in omega (arith, h, count));
    }

-- the queries are those of the function
pub record AreAll (G : Table) (is : List PlainInst) (starts : List ℕ) (queries : List Query) : Type 0 where
  pub sound : (a : Query) → Contains queries a → IsQuery G is starts a
  pub complete : (a : Query) → IsQuery G is starts a → Contains queries a

query_block : (G : Table) (is : List PlainInst) (starts : List ℕ) (a : Query) → IsQuery G is starts a
    → a.block + 1 < length starts
query_block G is starts a (b, (n, i, x)) = elim x [
  | inl u ↦ (let e = u.1.1.block in let w = i.block in omega (arith, e, w))
  | inr p ↦ p.2.1.inside
]

pub of_blocks : (G : Table) (is : List PlainInst) (f : ℕ) (starts : List ℕ) (graph : Graph) (queries : List Query)
    → IsGraphOf G is f starts graph → ((a : Query) → Contains queries a → IsQuery G is starts a)
    → AreOfBlocks graph queries
of_blocks G is f starts graph queries g sound = λ k d lt. (
    let h = query_block G is starts (slice_index_or queries k d)
    (sound (slice_index_or queries k d) (All-contains_itself queries k d lt)) in
    let count = g.count in
    omega (arith, h, count))

-- a walk ends in its function
pub walk_within : (G : Table) (is : List PlainInst) (f : ℕ) (past : List ℕ) (n : ℕ) → IsWalk G is f past n
    → IsOfFunction is n f
walk_within G is f _ _ (IsWalk.begins op) = of_itself is f op
walk_within G is f _ _ (IsWalk.goes past n m walk next of) = of

-- whether a number is of a block's front, or of a block

front_or_not : (starts : List ℕ) (b d n : ℕ)
    → ((slice_index starts b ≤ d) × (d < n)) ⊎ ¬ ((slice_index starts b ≤ d) × (d < n))
front_or_not starts b d n = elim (cases_lt d (slice_index starts b)) [
  | inl below ↦ inr (λ h. let k = h.0 in omega (arith, below, k))
  | inr from ↦ elim (cases_lt d n) [
    | inl before ↦ inl (from, before)
    | inr after ↦ inr (λ h. let k = h.1 in omega (arith, after, k))
  ]
]

in_or_not : (starts : List ℕ) (b d : ℕ) → b + 1 < length starts → IsIn starts b d ⊎ ¬ (IsIn starts b d)
in_or_not starts b d inside = elim (front_or_not starts b d (slice_index starts (b + 1))) [
  | inl h ↦ inl (record { block = inside; from = h.0; to = h.1 })
  | inr none ↦ inr (λ i. none (i.from, i.to))
]

-- Where what is asked for an instruction is available, nothing is unavailable at it.

value_found : (G : Table) (c : Code) (f : ℕ) (starts : List ℕ) (graph : Graph) → IsCode G c
    → IsGraphOf G (insts_of c) f starts graph
    → (n : ℕ) → ((a : Query) → a.step ≡ n → IsQuery G (insts_of c) starts a → IsAvailable graph a.value a.block)
    → (m : IsMissing G (insts_of c) n) → m.function ≡ f → ⊥
value_found G c f starts graph is g n found m e =
    let walk : IsWalk G (insts_of c) f m.past n = subst (λ (k : ℕ). IsWalk G (insts_of c) k m.past n) e m.walk in
    let r = g.divided.all n (walk_within G (insts_of c) f m.past n walk) in
    let b : ℕ = r.0 in
    let d : ℕ = m.local.place in
    m.undefined (use_ready G (insts_of c) f starts graph g b n m.id d r.1 m.local.defined
    (elim (front_or_not starts b d n) [
      | inl before ↦ inl before
      | inr apart ↦ inr (
          let a : Query = record { block = b; value = d; step = n } in
          let u : IsUseQuery G (insts_of c) starts b n m.operand a = record {
            block = refl;
            step = refl;
            id = m.id;
            role = m.role;
            used = m.used;
            local = m.local;
            defined = m.local.defined;
            apart = apart;
          } in
          found a refl (b, (n, r.1, inl (m.other, (m.operand, u)))))
    ]) m.past walk)

pair_found : (G : Table) (c : Code) (f : ℕ) (starts : List ℕ) (graph : Graph) → IsCode G c
    → IsGraphOf G (insts_of c) f starts graph
    → (n : ℕ) → ((a : Query) → a.step ≡ n → IsQuery G (insts_of c) starts a → IsAvailable graph a.value a.block)
    → (m : IsPairMissing G (insts_of c) n) → m.comes.function ≡ f → ⊥
pair_found G c f starts graph is g n found m e =
    let walk : IsWalk G (insts_of c) f m.comes.past n = subst
    (λ (k : ℕ). IsWalk G (insts_of c) k m.comes.past n) e m.comes.walk in
    let r = g.divided.all n (walk_within G (insts_of c) f m.comes.past n walk) in
    let b : ℕ = r.0 in
    let d : ℕ = m.local.place in
    let from = came_from G (insts_of c) f starts graph g b n m.parent m.before r.1 m.phi m.comes e in
    let h : ℕ = from.from in
    let label = (target_label G (insts_of c) f starts graph g h b from.inside from.path.1).1 in
    let here : IsIn starts h m.parent = subst (λ (k : ℕ). IsIn starts h k) (sym from.first)
    (first_in (insts_of c) f starts g.divided h from.inside) in
    m.undefined (pair_ready G (insts_of c) f starts graph g b h n m.value d m.parent m.before r.1 m.phi here
    m.local.defined (elim (in_or_not starts h d from.inside) [
      | inl stands ↦ inl stands
      | inr apart ↦ inr (
          let a : Query = record { block = h; value = d; step = n } in
          let named : IsLabelOf (insts_of c) m.pair.id (slice_index starts h) = subst
          (λ (k : ℕ). IsLabelOf (insts_of c) m.pair.id k) from.first m.pair.label in
          let p : IsPairQuery G (insts_of c) starts n m.pair.operand a =
          record {
            inside = from.inside;
            step = refl;
            value = m.value;
            paired = m.pair.paired;
            id = m.pair.id;
            named = m.pair.named;
            label = named;
            local = m.local;
            defined = m.local.defined;
            apart = apart;
          } in
          found a refl (b, (n, r.1, inr (m.phi, label, (m.pair.operand, p)))))
    ]) m.comes e)

pub not_unavailable : (G : Table) (c : Code) (f : ℕ) (starts : List ℕ) (graph : Graph) → IsCode G c
    → IsGraphOf G (insts_of c) f starts graph
    → (n : ℕ) → ((a : Query) → a.step ≡ n → IsQuery G (insts_of c) starts a → IsAvailable graph a.value a.block)
    → ¬ (IsUnavailableIn G (insts_of c) f n)
not_unavailable G c f starts graph is g n found (inl (m, e)) = value_found G c f starts graph is g n found m e
not_unavailable G c f starts graph is g n found (inr (m, e)) = pair_found G c f starts graph is g n found m e

-- Where it is unavailable, a value is unavailable at the instruction.

only_at : (G : Table) (c : Code) (x d : ℕ) → IsCode G c → IsDefinedAt (insts_of c) x d → (k : ℕ)
    → IsDefinedAt (insts_of c) x k → k ≡ d
only_at G c x d is at k there = one_place G c x k d is there at

value_unavailable : (G : Table) (c : Code) (f : ℕ) (starts : List ℕ) (graph : Graph) → IsCode G c
    → IsGraphOf G (insts_of c) f starts graph
    → (b n k : ℕ) (a : Query) → IsIn starts b n → ¬ (IsOp (insts_of c) n is_phi)
    → IsUseQuery G (insts_of c) starts b n k a → IsUnavailable graph a.value a.block
    → IsUnavailableIn G (insts_of c) f n
value_unavailable G c f starts graph is g b n k a i plain u m =
    let there : IsUnavailable graph a.value b = subst (λ (j : ℕ). IsUnavailable graph a.value j) u.block m in
    let r = use_missing G (insts_of c) f starts graph g b n u.id a.value i
    (only_at G c u.id a.value is u.defined) u.apart there in
    let h : IsMissing G (insts_of c) n = record {
      other = plain;
      function = f;
      past = r.past;
      walk = r.walk;
      operand = k;
      id = u.id;
      role = u.role;
      used = u.used;
      local = u.local;
      undefined = r.undefined;
    } in
    inl (h, refl)

pair_unavailable : (G : Table) (c : Code) (f : ℕ) (starts : List ℕ) (graph : Graph) → IsCode G c
    → IsGraphOf G (insts_of c) f starts graph
    → (b n k : ℕ) (a : Query) → IsIn starts b n → IsOp (insts_of c) n is_phi
    → IsOp (insts_of c) (slice_index starts b) is_label → IsPairQuery G (insts_of c) starts n k a
    → IsUnavailable graph a.value a.block → IsUnavailableIn G (insts_of c) f n
pair_unavailable G c f starts graph is g b n k a i phi label p m =
    let target = parents_lead G c f starts graph is g b a.block n (k + 1) p.id i label phi p.inside p.named p.label in
    let r = pair_missing G (insts_of c) f starts graph g b a.block n p.value a.value
    (slice_index starts a.block) i phi p.inside refl p.label.label target
    (only_at G c p.value a.value is p.defined) p.apart m in
    let h : IsPairMissing G (insts_of c) n = record {
      phi = phi;
      value = p.value;
      parent = slice_index starts a.block;
      before = r.before;
      pair = record { operand = k; paired = p.paired; id = p.id; named = p.named; label = p.label };
      comes = r.comes;
      local = p.local;
      undefined = r.undefined;
    } in
    inr (h, r.same)

pub unavailable_at : (G : Table) (c : Code) (f : ℕ) (starts : List ℕ) (graph : Graph) → IsCode G c
    → IsGraphOf G (insts_of c) f starts graph
    → (a : Query) → IsQuery G (insts_of c) starts a → IsUnavailable graph a.value a.block
    → IsUnavailableIn G (insts_of c) f a.step
unavailable_at G c f starts graph is g a (b, (n, i, x)) m = elim x [
  | inl u ↦ (let s = u.1.1.step in
      subst (λ (k : ℕ). IsUnavailableIn G (insts_of c) f k) (sym s)
      (value_unavailable G c f starts graph is g b n u.1.0 a i u.0 u.1.1 m))
  | inr p ↦ (let s = p.2.1.step in
      subst (λ (k : ℕ). IsUnavailableIn G (insts_of c) f k) (sym s)
      (pair_unavailable G c f starts graph is g b n p.2.0 a i p.0 p.1 p.2.1 m))
]

-- The first step that is unavailable is the first instruction.

query_there : (queries : List Query) (a : Query) → Contains queries a → (k : ℕ) × (slice_get queries k ≡ Some a)
query_there queries a (k, lt, e) = (k, slice_get_read queries (length queries) k a refl lt (sym e))

there_query : (queries : List Query) (k : ℕ) (a : Query) → slice_get queries k ≡ Some a → Contains queries a
there_query queries k a h = (k, slice_get_within queries k a h, get_or_from_slice_get queries k a a h)

pub first_by : (G : Table) (c : Code) (f : ℕ) (starts : List ℕ) (graph : Graph) (queries : List Query) → IsCode G c
    → IsGraphOf G (insts_of c) f starts graph → AreAll G (insts_of c) starts queries
    → (o : Option ℕ) → IsFirstUnavailable graph queries o → IsFirstIn G (insts_of c) f o
first_by G c f starts graph queries is g all None first =
    λ n. not_unavailable G c f starts graph is g n
    (λ a e k. (let t = query_there queries a (all.complete a k) in first t.0 a t.1))
first_by G c f starts graph queries is g all (Some i) (here, before) = (
  let a = here.1 in
      let k = all.sound a (there_query queries here.0 a here.2) in
      let s : a.step ≡ i = here.3 in
      subst (λ (j : ℕ). IsUnavailableIn G (insts_of c) f j) s (unavailable_at G c f starts graph is g a k here.4),
  λ n lt. not_unavailable G c f starts graph is g n
      (λ b e k. (let t = query_there queries b (all.complete b k) in before t.0 b t.1 (omega (arith, e, lt)))),
)

-- the queries that were added to none
pub all_by : (G : Table) (c : Code) (starts : List ℕ) (none queries : List Query) → IsCode G c → none ≡ []
    → AddsBy c (λ (H : Table) (a : Query). IsQuery H (insts_of c) starts a) none queries
    → AreAll G (insts_of c) starts queries
all_by G c starts none queries is empty adds =
    let e : queries ≡ adds.added = adds.all ∙ ap (λ (xs : List Query). xs ++ adds.added) empty in
    record {
      sound = λ a k. adds.sound a (subst (λ (xs : List Query). Contains xs a) e k) G is;
      complete = λ a k. subst (λ (xs : List Query). Contains xs a) (sym e) (adds.complete a (G, is, k));
    }

-- Where nothing is asked of a function that has no OpPhi, nothing is unavailable.

value_asked : (G : Table) (c : Code) (f : ℕ) (starts : List ℕ) → IsDivided (insts_of c) f starts
    → ((a : Query) → ¬ (IsQuery G (insts_of c) starts a)) → (n : ℕ) → (m : IsMissing G (insts_of c) n) → m.function ≡ f
    → ⊥
value_asked G c f starts d none n m e =
    let walk : IsWalk G (insts_of c) f m.past n = subst (λ (k : ℕ). IsWalk G (insts_of c) k m.past n) e m.walk in
    let r = d.all n (walk_within G (insts_of c) f m.past n walk) in
    let b : ℕ = r.0 in
    let p : ℕ = m.local.place in
    elim (front_or_not starts b p n) [
      | inl before ↦ m.undefined (came_by G (insts_of c) f starts d m.past n walk b r.1
          (λ (k : ℕ). IsDefinedAt (insts_of c) m.id k) p before.0 before.1 m.local.defined)
      | inr apart ↦ (
          let a : Query = record { block = b; value = p; step = n } in
          let u : IsUseQuery G (insts_of c) starts b n m.operand a = record {
            block = refl;
            step = refl;
            id = m.id;
            role = m.role;
            used = m.used;
            local = m.local;
            defined = m.local.defined;
            apart = apart;
          } in
          none a (b, (n, r.1, inl (m.other, (m.operand, u)))))
    ]

pub none_by : (G : Table) (c : Code) (f : ℕ) (starts : List ℕ) → IsDivided (insts_of c) f starts
    → ((a : Query) → ¬ (IsQuery G (insts_of c) starts a))
    → ((n : ℕ) → IsOfFunction (insts_of c) n f → ¬ (IsOp (insts_of c) n is_phi)) → IsFirstIn G (insts_of c) f None
none_by G c f starts d none plain n (inl (m, e)) = value_asked G c f starts d none n m e
none_by G c f starts d none plain n (inr (m, e)) =
    plain n (walk_within G (insts_of c) f m.comes.past n
    (subst (λ (k : ℕ). IsWalk G (insts_of c) k m.comes.past n) e m.comes.walk)) m.phi

none_there : (a : Query) → ¬ (Contains [] a)
none_there a (k, lt, e) = absurd (omega (arith, lt))

-- where nothing was added to none, nothing is asked
pub none_asked : (G : Table) (c : Code) (starts : List ℕ) (none queries : List Query) → IsCode G c → none ≡ []
    → queries ≡ [] → AddsBy c (λ (H : Table) (a : Query). IsQuery H (insts_of c) starts a) none queries → (a : Query)
    → ¬ (IsQuery G (insts_of c) starts a)
none_asked G c starts none queries is empty still adds a k =
    let e : queries ≡ adds.added = adds.all ∙ ap (λ (xs : List Query). xs ++ adds.added) empty in
    none_there a (subst (λ (xs : List Query). Contains xs a) (sym e ∙ still) (adds.complete a (G, is, k)))

pub is_none : (queries : List Query) (n : ℕ) (b : Bool) → n ≡ length queries → b ≡ (n == 0) → b ≡ true → queries ≡ []
is_none [] n b l e h = refl
is_none (a ∷ queries) n b l e h = absurd (let z = eqb-true n 0 (sym e ∙ h) in omega (arith, z, l))
