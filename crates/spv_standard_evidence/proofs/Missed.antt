-- Uses of variables that are not in an interface, and the ways of calls to them.
use Rattle.std.proofs.Common.{◌≡◌, ◌<◌, ◌≤◌, ◌+◌, ◌-◌, ◌++◌, ◌∙◌, ◌⊎◌, inl, inr, ℕ, List, [], ◌∷◌, Bool}
use Rattle.std.proofs.Common.{false, Some, Contains, get_or, length, map, replicate, reverse, take, refl, sym, ap}
use Rattle.std.proofs.Common.{subst, arith}
use Rattle.std.specs.Prelude.{slice_get}
use mathlib.Core.List.{reverse-cons}
use Rattle.std.proofs.lemmas.Bool.{cases_lt}
use Rattle.std.proofs.lemmas.List.{length-map, length-replicate, length_push}
use Rattle.std.proofs.lemmas.Option.{get_or_from_slice_get, slice_get_within}
use Rattle.spv_table.specs.Table.{Table}
use Rattle.spv_module.specs.declared.module.Inst.{Inst}
use Rattle.spv_module.specs.Module.{plain_inst}
use Rattle.spv_module.specs.Operand.{Plain, PlainInst}
use Rattle.spv_layout.specs.declared.form.Role.{Role}
use Rattle.spv_layout.specs.Shape.{IsUse}
use Rattle.spv_layout.proofs.Places.{function_same}
use Rattle.spv_layout.proofs.Shapes.{use_same}
use Rattle.spv_ids.specs.Definition.{IsDefinedAt}
use Rattle.spv_ids.specs.Outcome.{IsOnly}
use Rattle.spv_graphs.specs.declared.edge.Edge.{Edge}
use Rattle.spv_graphs.specs.Graph.{most_blocks}
use Rattle.spv_graphs.specs.Way.{AreBelow, AreWithin, HasEdge, IsShortest, IsWay}
use Rattle.spv_flow.specs.declared.calls.graph.Call.{Call}
use Rattle.spv_flow.specs.calls.Calls.{Calls}
use Rattle.spv_flow.specs.calls.Chain.{Chain}
use Rattle.spv_flow.specs.calls.inner.Found.{AreCalls}
use Rattle.spv_flow.proofs.lemmas.branches.Labelled.{use_within}
use Rattle.spv_flow.proofs.lemmas.calls.Insts.{same_inst}
use Rattle.spv_flow.proofs.lemmas.calls.Lists.{pushed_cases, pushed_keeps, pushed_last}
use Rattle.spv_interfaces.specs.Interface.{IsInTree, IsNamedIn}
use Rattle.spv_interfaces.specs.inner.Uses.{IsInDefinition}
use Rattle.spv_interfaces.specs.inner.Wanted.{IsWanted}
use Rattle.spv_interfaces.proofs.Using.{wanted_global}
use Rattle.spv_flow_evidence.specs.calls.Evidence.{IsCallChain, IsShortestOf}
use Rattle.spv_flow_evidence.specs.calls.inner.Edges.{edge_of}
use Rattle.spv_flow_evidence.proofs.lemmas.calls.Walked.{all_open, back_shortest, chain_of, chain_way}
use Rattle.spv_flow_evidence.proofs.lemmas.calls.Walked.{edges_within, one_within, only_at, there}
use Rattle.spv_evidence.specs.declared.evidence.Evidence.TheVariants.{NotInInterface}
use Rattle.spv_standard_evidence.specs.Interfaces.{Shows}
use Rattle.spv_standard_evidence.specs.inner.Interfaces.{AddsEdges, LeadsPast, Misses, MissesBefore, MissesIn, Reaches}

-- The operands of an instruction, one after another: none of the first misses an id.
abbrev pub NoneMissed : Table → ℕ → List PlainInst → (ℕ → Type 0) → PlainInst → ℕ → Type 0
NoneMissed G minor is Named i to = (x : ℕ) (m : Misses G minor is Named i x) → ¬ (m.operand < to)

pub missed_here : (G : Table) (minor : ℕ) (is : List PlainInst) (Named : ℕ → Type 0) (i : PlainInst) (k x : ℕ)
    → (r : Role) × IsUse G i k x r → IsWanted minor is x × ¬ (Named x) → Misses G minor is Named i x
missed_here G minor is Named i k x (r, u) w =
    record { operand = k; role = r; used = u; wanted = w.0; unnamed = w.1 }

pub missed_past : (G : Table) (minor : ℕ) (is : List PlainInst) (Named : ℕ → Type 0) (i : PlainInst) (k : ℕ)
    → ((x : ℕ) (r : Role) → ¬ (IsUse G i k x r)) → NoneMissed G minor is Named i k
    → NoneMissed G minor is Named i (k + 1)
missed_past G minor is Named i k none before x m l = elim (cases_lt m.operand k) [
  | inl less ↦ before x m less
  | inr past ↦
      let e : m.operand ≡ k = omega (arith, l, past) in
      none x m.role (subst (λ (j : ℕ). IsUse G i j x m.role) e m.used)
]

pub missed_more : (G : Table) (minor : ℕ) (is : List PlainInst) (Named : ℕ → Type 0) (i : PlainInst) (k x : ℕ)
    → (r : Role) × IsUse G i k x r → ¬ (IsWanted minor is x × ¬ (Named x)) → NoneMissed G minor is Named i k
    → NoneMissed G minor is Named i (k + 1)
missed_more G minor is Named i k x (r, u) not before y m l = elim (cases_lt m.operand k) [
  | inl less ↦ before y m less
  | inr past ↦
      let e : m.operand ≡ k = omega (arith, l, past) in
      let w : IsUse G i k y m.role = subst (λ (j : ℕ). IsUse G i j y m.role) e m.used in
      let same : y ≡ x = (use_same G i k y x m.role r w u).id in
      not (subst (λ (z : ℕ). IsWanted minor is z × ¬ (Named z)) same (m.wanted, m.unnamed))
]

pub missed_none : (G : Table) (minor : ℕ) (is : List PlainInst) (Named : ℕ → Type 0) (i : PlainInst) (k : ℕ)
    → length i.operands ≤ k → NoneMissed G minor is Named i k → (x : ℕ) → ¬ (Misses G minor is Named i x)
missed_none G minor is Named i k all none x m =
    let w = use_within G i m.operand x m.role m.used in
    none x m (omega (arith, w, all))

-- An instruction of a definition, or of none.
pub in_one : (G : Table) (minor : ℕ) (is : List PlainInst) (Named : ℕ → Type 0) (n f x : ℕ) (i : PlainInst)
    → IsInDefinition is n f → slice_get is n ≡ Some i → Misses G minor is Named i x
    → MissesIn G minor is Named n f x
in_one G minor is Named n f x i within at m = record { within = within; inst = i; there = at; misses = m }

pub in_none : (G : Table) (minor : ℕ) (is : List PlainInst) (Named : ℕ → Type 0) (n : ℕ)
    → ((f : ℕ) → ¬ (IsInDefinition is n f)) → (f x : ℕ) → ¬ (MissesIn G minor is Named n f x)
in_none G minor is Named n none f x m = none f m.within

pub in_other : (G : Table) (minor : ℕ) (is : List PlainInst) (Named : ℕ → Type 0) (n : ℕ) (i : PlainInst)
    → slice_get is n ≡ Some i → ((x : ℕ) → ¬ (Misses G minor is Named i x)) → (f x : ℕ)
    → ¬ (MissesIn G minor is Named n f x)
in_other G minor is Named n i at none f x m =
    none x (subst (λ (j : PlainInst). Misses G minor is Named j x) (same_inst is n m.inst i m.there at) m.misses)

-- Edges, with one more.
edge_kept : (edges : List Edge) (e : Edge) (p b : ℕ) → HasEdge edges p b → HasEdge (edges ++ e ∷ []) p b
edge_kept edges e p b h = record {
  place = h.place;
  edge = h.edge;
  there = pushed_keeps edges e h.place h.edge h.there;
  from = h.from;
  to = h.to;
}

edge_last : (edges : List Edge) (e : Edge) (p b : ℕ) → e.from ≡ p → e.to ≡ b → HasEdge (edges ++ e ∷ []) p b
edge_last edges e p b from to =
    record { place = length edges; edge = e; there = pushed_last edges e; from = from; to = to }

edge_cases : (edges : List Edge) (e : Edge) (p b : ℕ) → HasEdge (edges ++ e ∷ []) p b
    → HasEdge edges p b ⊎ ((e.from ≡ p) × (e.to ≡ b))
edge_cases edges e p b h = elim (pushed_cases edges e h.place h.edge h.there) [
  | inl old ↦ inl record { place = h.place; edge = h.edge; there = old; from = h.from; to = h.to }
  | inr new ↦
      inr (ap (λ (d : Edge). d.from) new.1 ∙ h.from, ap (λ (d : Edge). d.to) new.1 ∙ h.to)
]

module _ (G : Table) (minor : ℕ) (is : List PlainInst) (Named : ℕ → Type 0) where
  later : (m n f : ℕ) → m ≤ n → MissesBefore G minor is Named m f → MissesBefore G minor is Named n f
  later m n f l b =
      let c = b.below in
      record { place = b.place; below = omega (arith, c, l); id = b.id; misses = b.misses }

  pub edges_none : (goal : ℕ) (old new : List Edge) → new ≡ old
      → AddsEdges (MissesBefore G minor is Named 0) goal old new
  edges_none goal old new same = record {
    each = λ p b. (
      λ h. inl (subst (λ (es : List Edge). HasEdge es p b) same h),
      λ h. elim h [
        | inl o ↦ subst (λ (es : List Edge). HasEdge es p b) (sym same) o
        | inr q ↦ (let l = q.1.below in absurd (omega (arith, l)))
      ],
    );
  }

  pub edges_past : (goal n : ℕ) (old new : List Edge) → ((f x : ℕ) → ¬ (MissesIn G minor is Named n f x))
      → AddsEdges (MissesBefore G minor is Named n) goal old new
      → AddsEdges (MissesBefore G minor is Named (n + 1)) goal old new
  edges_past goal n old new none a = record {
    each = λ p b. (
      λ h. elim ((a.each p b).0 h) [
        | inl o ↦ inl o
        | inr q ↦ inr (q.0, later n (n + 1) p (omega arith) q.1)
      ],
      λ h. (a.each p b).1 (elim h [
        | inl o ↦ inl o
        | inr q ↦ elim (cases_lt q.1.place n) [
          | inl less ↦
              inr (q.0, record { place = q.1.place; below = less; id = q.1.id; misses = q.1.misses })
          | inr past ↦
              let l = q.1.below in
              let e : q.1.place ≡ n = omega (arith, l, past) in
              absurd (none p q.1.id (subst (λ (m : ℕ). MissesIn G minor is Named m p q.1.id) e q.1.misses))
        ]
      ]),
    );
  }

  pub edges_more : (goal n f x : ℕ) (old new : List Edge) (e : Edge) → e.from ≡ f → e.to ≡ goal
      → MissesIn G minor is Named n f x → AddsEdges (MissesBefore G minor is Named n) goal old new
      → AddsEdges (MissesBefore G minor is Named (n + 1)) goal old (new ++ e ∷ [])
  edges_more goal n f x old new e from to here a = record {
    each = λ p b. (
      λ h. elim (edge_cases new e p b h) [
        | inl o ↦ elim ((a.each p b).0 o) [
          | inl k ↦ inl k
          | inr q ↦ inr (q.0, later n (n + 1) p (omega arith) q.1)
        ]
        | inr q ↦ inr (
          sym q.1 ∙ to,
          record {
            place = n;
            below = omega arith;
            id = x;
            misses = subst (λ (g : ℕ). MissesIn G minor is Named n g x) (sym from ∙ q.0) here;
          },
        )
      ],
      λ h. elim h [
        | inl o ↦ edge_kept new e p b ((a.each p b).1 (inl o))
        | inr q ↦ elim (cases_lt q.1.place n) [
          | inl less ↦ edge_kept new e p b ((a.each p b).1
              (inr (q.0, record { place = q.1.place; below = less; id = q.1.id; misses = q.1.misses })))
          | inr past ↦
              let l = q.1.below in
              let s : q.1.place ≡ n = omega (arith, l, past) in
              let m : MissesIn G minor is Named n p q.1.id =
              subst (λ (k : ℕ). MissesIn G minor is Named k p q.1.id) s q.1.misses in
              edge_last new e p b (from ∙ function_same is n f p here.within.of m.within.of) (to ∙ sym q.0)
        ]
      ],
    );
  }

contained : (xs : List ℕ) (k b : ℕ) → slice_get xs k ≡ Some b → Contains xs b
contained xs k b h = (k, slice_get_within xs k b h, get_or_from_slice_get xs k b b h)

-- A way by calls, and one more edge to a goal that is no function.
module _ (is : List PlainInst) (calls : List Call) (a : AreCalls is (length is) calls) (P : ℕ → Type 0)
    (below : (f : ℕ) → P f → f < length is) (edges : List Edge)
    (adds : AddsEdges P (length is) (map edge_of calls) edges) (closed : List Bool)
    (o : (h : ℕ) → h < length is → slice_get closed h ≡ Some false) where
  call_below : (p b : ℕ) → HasEdge (map edge_of calls) p b → (p < length is) × (b < length is)
  call_below p b h =
      let w = (edges_within is calls a).each h.place h.edge h.there in
      let from = h.from in
      let to = h.to in
      let l = w.0 in
      let m = w.1 in
      (omega (arith, l, from), omega (arith, m, to))

  pub all_within : AreWithin (length is + 1) edges
  all_within = record {
    each = λ k e h. elim ((adds.each e.from e.to).0
        record { place = k; edge = e; there = h; from = refl; to = refl }) [
          | inl c ↦
              let w = call_below e.from e.to c in
              let l = w.0 in
              let m = w.1 in
              (omega (arith, l), omega (arith, m))
          | inr q ↦
              let l = below e.from q.1 in
              let m = q.0 in
              (omega (arith, l), omega (arith, m))
        ];
  }

  -- a way by calls is one by the edges
  more_way : (starts past : List ℕ) (b : ℕ) → IsWay (map edge_of calls) starts closed past b
      → IsWay edges starts closed past b
  more_way starts [] b w = w
  more_way starts (h ∷ past) b w = ((adds.each h b).1 (inl w.0), w.1, more_way starts past h w.2)

  -- and one by the edges to a function is one by calls
  less_way : (starts past : List ℕ) (b : ℕ) → b < length is → IsWay edges starts closed past b
      → IsWay (map edge_of calls) starts closed past b
  less_way starts [] b l w = w
  less_way starts (h ∷ past) b l w = elim ((adds.each h b).0 w.0) [
    | inl c ↦ (c, w.1, less_way starts past h (call_below h b c).0 w.2)
    | inr q ↦ (let e = q.0 in absurd (omega (arith, l, e)))
  ]

  pub way_there : (root : ℕ) → Reaches is P root
      → (past : List ℕ) × IsWay edges (root ∷ []) closed past (length is)
  way_there root r =
      let w = chain_way is calls a (root ∷ []) closed o root r.function (contained (root ∷ []) 0 root refl) r.chain in (
        r.function ∷ w.0,
        (
          (adds.each r.function (length is)).1 (inr (refl, r.so)),
          o r.function (below r.function r.so),
          more_way (root ∷ []) w.0 r.function w.1,
        ),
      )

  leads_by : (root : ℕ) (nodes past : List ℕ) → root < length is → IsWay edges (root ∷ []) closed past (length is)
      → nodes ≡ reverse (length is ∷ past)
      → ((other : List ℕ) → IsWay edges (root ∷ []) closed other (length is) → length past ≤ length other)
      → LeadsPast is P root (length is) nodes
  leads_by root nodes [] l w listed least =
      let e : length is ≡ root = only_at root w.0 (length is) (there (root ∷ []) (length is) w) in
      absurd (omega (arith, l, e))
  leads_by root nodes (g ∷ rest) l w listed least = elim ((adds.each g (length is)).0 w.0) [
    | inl c ↦ (let m = (call_below g (length is) c).1 in absurd (omega (arith, m)))
    | inr q ↦ record {
      last = g;
      rest = rest;
      listed = listed;
      shortest = back_shortest is calls a closed o g root (reverse (g ∷ rest)) record {
        past = rest;
        way = less_way (root ∷ []) rest g (below g q.1) w.2;
        listed = refl;
        least = λ other v.
            let m = least (g ∷ other) (w.0, w.1, more_way (root ∷ []) other g v) in
            omega (arith, m);
      };
      so = q.1;
    }
  ]

  pub leads : (root : ℕ) (nodes : List ℕ) → root < length is
      → IsShortest edges (root ∷ []) closed (length is) nodes → LeadsPast is P root (length is) nodes
  leads root nodes l s = leads_by root nodes s.past l s.way s.listed s.least

-- what misses an id is a function
pub misses_below : (G : Table) (minor : ℕ) (is : List PlainInst) (Named : ℕ → Type 0) (to f : ℕ)
    → MissesBefore G minor is Named to f → f < length is
misses_below G minor is Named to f m =
    let w = m.misses.within.of.begun.within in
    let u = m.misses.within.of.begun.up_to in
    omega (arith, w, u)

-- The nodes without the last.
take_front : (zs : List ℕ) (y : ℕ) → take (length zs) (zs ++ y ∷ []) ≡ zs
take_front [] y = refl
take_front (z ∷ zs) y = ap (λ (ts : List ℕ). z ∷ ts) (take_front zs y)

pub front_of : (xs ys : List ℕ) (n y : ℕ) (rest : List ℕ) → xs ≡ take (n - 1) ys → n ≡ length ys
    → ys ≡ reverse (y ∷ rest) → xs ≡ reverse rest
front_of xs ys n y rest front count e =
    let q : ys ≡ reverse rest ++ y ∷ [] = e ∙ reverse-cons y rest in
    let l = length_push (reverse rest) y in
    let m = ap length q in
    let k : n - 1 ≡ length (reverse rest) = omega (arith, l, m, count) in
    front ∙ ap (λ (j : ℕ). take j ys) k ∙ ap (λ (zs : List ℕ). take (length (reverse rest)) zs) q
    ∙ take_front (reverse rest) y

pub last_of : (xs rest : List ℕ) (y : ℕ) → xs ≡ reverse (y ∷ rest) → slice_get xs (length xs - 1) ≡ Some y
last_of xs rest y e =
    let q : xs ≡ reverse rest ++ y ∷ [] = e ∙ reverse-cons y rest in
    let l = length_push (reverse rest) y in
    let m = ap length q in
    let n : length xs - 1 ≡ length (reverse rest) = omega (arith, l, m) in
    rw n (subst (λ (zs : List ℕ). slice_get zs (length (reverse rest)) ≡ Some y) (sym q) (pushed_last (reverse rest) y))

pub last_read : (xs rest : List ℕ) (n y d : ℕ) → n ≡ length xs → xs ≡ reverse (y ∷ rest) → get_or xs (n - 1) d ≡ y
last_read xs rest n y d count e =
    rw count (get_or_from_slice_get xs (length xs - 1) y d (last_of xs rest y e))

pub some_nodes : (xs rest : List ℕ) (n y : ℕ) → n ≡ length xs → xs ≡ reverse (y ∷ rest) → 1 ≤ n
some_nodes xs rest n y count e =
    let q : xs ≡ reverse rest ++ y ∷ [] = e ∙ reverse-cons y rest in
    let l = length_push (reverse rest) y in
    let m = ap length q in
    omega (arith, l, m, count)

-- The search for a way, as it is asked.
pub record IsReady (edges : List Edge) (closed : List Bool) (root goal : ℕ) : Type 0 where
  pub within : AreWithin (length closed) edges
  pub starts : AreBelow (length closed) (root ∷ [])
  pub goal_there : goal < length closed
  pub few : length closed ≤ most_blocks

module _ (G : Table) (minor : ℕ) (is : List PlainInst) (Named : ℕ → Type 0) (calls : List Call) (edges : List Edge)
    (closed : List Bool) (root total : ℕ) (all : total ≡ length is) (a : AreCalls is (length is) calls)
    (adds : AddsEdges (MissesBefore G minor is Named total) total (map edge_of calls) edges)
    (open' : closed ≡ replicate (length is + 1) false) (below : root < length is) where
  their_edges : AddsEdges (MissesBefore G minor is Named (length is)) (length is) (map edge_of calls) edges
  their_edges = subst (λ (n : ℕ). AddsEdges (MissesBefore G minor is Named n) n (map edge_of calls) edges) all adds

  opened : (h : ℕ) → h < length is → slice_get closed h ≡ Some false
  opened h l = all_open (length is + 1) closed open' h (omega (arith, l))

  closed_count : length closed ≡ length is + 1
  closed_count = ap length open' ∙ length-replicate (length is + 1) false

  pub ready : length is < most_blocks → IsReady edges closed root total
  ready few =
      let n = closed_count in
      let within = all_within is calls a (MissesBefore G minor is Named (length is))
      (misses_below G minor is Named (length is)) edges their_edges closed opened in
      record {
        within = subst (λ (k : ℕ). AreWithin k edges) (sym n) within;
        starts = one_within (length closed) root (omega (arith, n, below));
        goal_there = omega (arith, n, all);
        few = omega (arith, n, few);
      }

  pub unreached : Reaches is (MissesBefore G minor is Named (length is)) root
      → ((past : List ℕ) → ¬ (IsWay edges (root ∷ []) closed past total)) → ⊥
  unreached r none =
      let w = way_there is calls a (MissesBefore G minor is Named (length is))
      (misses_below G minor is Named (length is)) edges their_edges closed opened root r in
      none w.0 (subst (λ (k : ℕ). IsWay edges (root ∷ []) closed w.0 k) (sym all) w.1)

  pub led : (nodes : List ℕ) → IsShortest edges (root ∷ []) closed total nodes →
      LeadsPast is (MissesBefore G minor is Named (length is)) root (length is) nodes
  led nodes s =
      leads is calls a (MissesBefore G minor is Named (length is)) (misses_below G minor is Named (length is)) edges
      their_edges closed opened root nodes below
      (subst (λ (k : ℕ). IsShortest edges (root ∷ []) closed k nodes) all s)

-- The calls, of the instructions that are known.
pub their_calls : (is : List PlainInst) (insts : List Inst) (calls : List Call) → is ≡ map plain_inst insts
    → AreCalls (map plain_inst insts) (length insts) calls → AreCalls is (length is) calls
their_calls is insts calls e a =
    let b : AreCalls (map plain_inst insts) (length (map plain_inst insts)) calls =
    subst (λ (n : ℕ). AreCalls (map plain_inst insts) n calls) (sym (length-map insts plain_inst)) a in
    subst (λ (js : List PlainInst). AreCalls js (length js) calls) (sym e) b

-- What is used in the call tree is missed in a definition that calls lead to.
pub reaches : (G : Table) (minor : ℕ) (is : List PlainInst) (os : List Plain) (Named : ℕ → Type 0) (f root x : ℕ)
    → ((y : ℕ) → Named y → IsNamedIn os y) → IsOnly is f root → IsWanted minor is x → IsInTree G is f x
    → ¬ (IsNamedIn os x) → Reaches is (MissesBefore G minor is Named (length is)) root
reaches G minor is os Named f root x to only wanted t never = record {
  function = t.function;
  chain = subst (λ (r : ℕ). Chain (Calls is) r t.function) (only.only t.root t.defined) t.chain;
  so = record {
    place = t.inst;
    below = t.of.begun.within;
    id = x;
    misses = record {
      within = record { of = t.of; definition = t.definition };
      inst = t.used.inst;
      there = t.used.there;
      misses = record {
        operand = t.operand;
        role = t.role;
        used = t.used.used;
        wanted = wanted;
        unnamed = λ n. never (to x n);
      };
    };
  };
}

-- The instructions from the OpFunction on, one after another: none of them is of the definition and misses an id.
abbrev pub NoUser : Table → ℕ → List PlainInst → (ℕ → Type 0) → ℕ → ℕ → Type 0
NoUser G minor is Named f to = (n x : ℕ) → n < to → ¬ (MissesIn G minor is Named n f x)

pub no_user_first : (G : Table) (minor : ℕ) (is : List PlainInst) (Named : ℕ → Type 0) (f : ℕ)
    → NoUser G minor is Named f f
no_user_first G minor is Named f n x l m = let u = m.within.of.begun.up_to in omega (arith, l, u)

pub no_user_past : (G : Table) (minor : ℕ) (is : List PlainInst) (Named : ℕ → Type 0) (f k : ℕ)
    → ((x : ℕ) → ¬ (MissesIn G minor is Named k f x)) → NoUser G minor is Named f k → NoUser G minor is Named f (k + 1)
no_user_past G minor is Named f k none before n x l m = elim (cases_lt n k) [
  | inl less ↦ before n x less m
  | inr past ↦
      let e : n ≡ k = omega (arith, l, past) in
      none x (subst (λ (j : ℕ). MissesIn G minor is Named j f x) e m)
]

pub no_user_other : (G : Table) (minor : ℕ) (is : List PlainInst) (Named : ℕ → Type 0) (f k g y : ℕ)
    → MissesIn G minor is Named k g y → (g ≡ f → ⊥) → (x : ℕ) → ¬ (MissesIn G minor is Named k f x)
no_user_other G minor is Named f k g y other apart x m =
    apart (function_same is k g f other.within.of m.within.of)

pub user_there : (G : Table) (minor : ℕ) (is : List PlainInst) (Named : ℕ → Type 0) (f to k : ℕ) → to ≤ k
    → NoUser G minor is Named f k → MissesBefore G minor is Named to f → ⊥
user_there G minor is Named f to k l none m =
    let b = m.below in
    none m.place m.id (omega (arith, b, l)) m.misses

-- by the functions of the way that was found
pub shortest_told : (is : List PlainInst) (P : ℕ → Type 0) (root goal last : ℕ) (nodes functions : List ℕ)
    (l : LeadsPast is P root goal nodes) → functions ≡ reverse (l.last ∷ l.rest) → last ≡ l.last
    → IsShortestOf (IsCallChain is last root) functions
shortest_told is P root goal last nodes functions l e f =
    subst (λ (fs : List ℕ). IsShortestOf (IsCallChain is last root) fs) (sym e)
    (subst (λ (k : ℕ). IsShortestOf (IsCallChain is k root) (reverse (l.last ∷ l.rest))) (sym f) l.shortest)

pub misses_told : (G : Table) (minor : ℕ) (is : List PlainInst) (Named : ℕ → Type 0) (total last found : ℕ)
    → total ≡ length is → last ≡ found → MissesBefore G minor is Named (length is) found
    → MissesBefore G minor is Named total last
misses_told G minor is Named total last found e f m =
    subst (λ (n : ℕ). MissesBefore G minor is Named n last) (sym e)
    (subst (λ (k : ℕ). MissesBefore G minor is Named (length is) k) (sym f) m)

-- What shows that an interface lacks a variable.
lack_by : (G : Table) (minor : ℕ) (is : List PlainInst) (os : List Plain) (f x : ℕ) (t : IsInTree G is f x)
    (calls : List ℕ) → ¬ (IsNamedIn os x) → IsShortestOf (IsCallChain is t.function t.root) calls
    → IsWanted minor is x → Shows G minor is f os (NotInInterface t.variable.place calls t.inst)
lack_by G minor is os f x t calls never s (IsWanted.any l g) = Shows.unnamed x t calls l never s
lack_by G minor is os f x t calls never s (IsWanted.outside l out) = Shows.unnamed_outside x t calls l out never s

pub lack_shown : (G : Table) (minor : ℕ) (is : List PlainInst) (os : List Plain) (Named : ℕ → Type 0)
    (f root g n x v : ℕ) (calls : List ℕ) → ((y : ℕ) → IsNamedIn os y → Named y) → IsOnly is f root
    → IsShortestOf (IsCallChain is g root) calls → MissesIn G minor is Named n g x → IsOnly is x v
    → Shows G minor is f os (NotInInterface v calls n)
lack_shown G minor is os Named f root g n x v calls to only s m place =
    let global = wanted_global minor is x m.misses.wanted in
    let t : IsInTree G is f x = record {
      root = root;
      defined = only.there;
      function = g;
      chain = chain_of is g root calls s.holds;
      definition = m.within.definition;
      inst = n;
      of = m.within.of;
      operand = m.misses.operand;
      role = m.misses.role;
      used = record { inst = m.inst; there = m.there; used = m.misses.used };
      variable = global;
    } in
    subst (λ (p : ℕ). Shows G minor is f os (NotInInterface p calls n)) (place.only global.place global.defined)
    (lack_by G minor is os f x t calls (λ h. m.misses.unnamed (to x h)) s m.misses.wanted)

-- the id that is missed has a definition
pub wanted_defined : (minor : ℕ) (is : List PlainInst) (x : ℕ) → IsWanted minor is x
    → (v : ℕ) × IsDefinedAt is x v
wanted_defined minor is x w = let g = wanted_global minor is x w in (g.place, g.defined)
