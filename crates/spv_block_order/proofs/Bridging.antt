-- Blocks of the graph of a function, and OpLabels on its walks.
use Rattle.std.proofs.Common.{◌≡◌, ◌<◌, ◌≤◌, ◌+◌, ◌-◌, ◌++◌, ◌⊎◌, ℕ, zero, suc, List, [], ◌∷◌, Option, Some, None}
use Rattle.std.proofs.Common.{length, refl, sym, ap, subst, inl, inr, arith}
use Rattle.std.specs.Prelude.{Any, All, Contains, slice_get, slice_index, slice_index_or, slice_range, option_map}
use Rattle.std.specs.Prelude.{unwrap_or, drop}
use Rattle.std.proofs.lemmas.Bool.{cases_lt, cases_order}
use Rattle.std.proofs.lemmas.List.Elements.{All-take, All-drop, All-contains}
use Rattle.spv_table.specs.Table.{Table}
use Rattle.spv_module.specs.Operand.{PlainInst}
use Rattle.spv_layout.specs.Place.{IsOfFunction}
use Rattle.spv_layout.proofs.Places.{function_same}
use Rattle.spv_graphs.specs.declared.graph.Block.{Block}
use Rattle.spv_graphs.specs.declared.graph.Graph.{Graph}
use Rattle.spv_graphs.specs.Graph.{IsGraph, block_count, targets_of}
use Rattle.spv_graphs.specs.Path.{IsPath}
use Rattle.spv_graph_order.specs.Order.{IsOnTheWay, IsEarly, IsFirstEarly, IsHigher}
use Rattle.spv_flow.specs.branches.Target.{is_label, IsOp}
use Rattle.spv_flow.specs.branches.inner.Target.{is_function, is_terminator}
use Rattle.spv_flow.specs.branches.Walk.{Next, IsWalk}
use Rattle.spv_flow.specs.walks.inner.Divided.{IsIn, IsBegin, IsDivided, IsGraphOf}
use Rattle.spv_flow.proofs.lemmas.walks.Deciding.{walk_within}
use Rattle.spv_flow.proofs.lemmas.walks.Lists.{any_cases, any_left, any_right}
use Rattle.spv_flow.proofs.lemmas.walks.Trails.{run, size, trail, any_run, run_any}
use Rattle.spv_flow.proofs.lemmas.walks.Walking.{first_in, begin_first, comes, walk_to, one_block}
use Rattle.spv_block_order.specs.Early.{IsEarlyIn}
use Rattle.spv_block_order.specs.inner.First.{IsEarlyBy, IsFirstIn}

pub in_none : (x : ℕ) → ¬ (Contains [] x)
in_none x (k, lt, e) = absurd (omega (arith, lt))

pub in_first : (x : ℕ) (past : List ℕ) → Contains (x ∷ past) x
in_first x past = (0, omega arith, refl)

pub in_later : (h x : ℕ) (past : List ℕ) → Contains past x → Contains (h ∷ past) x
in_later h x past (k, lt, e) = (suc k, omega (arith, lt), e)

pub in_cases : (h x : ℕ) (past : List ℕ) → Contains (h ∷ past) x → (h ≡ x) ⊎ Contains past x
in_cases h x past (zero, lt, e) = inl e
in_cases h x past (suc k, lt, e) = inr (k, omega (arith, lt), e)

contains_any : (xs : List ℕ) (x : ℕ) → Contains xs x → Any (λ n. n ≡ x) xs
contains_any xs x (k, lt, e) = (k, x, lt, e, refl)

any_contains : (xs : List ℕ) (x : ℕ) → Any (λ n. n ≡ x) xs → Contains xs x
any_contains xs x (k, y, lt, e, p) = (k, lt, subst (λ (z : ℕ). slice_index_or xs k z ≡ z) p e)

contains_right : (xs ys : List ℕ) (x : ℕ) → Contains ys x → Contains (xs ++ ys) x
contains_right xs ys x h = any_contains (xs ++ ys) x (any_right (λ n. n ≡ x) xs ys (contains_any ys x h))

-- An instruction is on the trail of a path exactly where it is of a block of the path.

trail_has : (starts past : List ℕ) (b n : ℕ) → Contains past b → slice_index starts b ≤ n
    → n < slice_index starts (b + 1) → Contains (trail starts past) n
trail_has starts [] b n h from to = absurd (in_none b h)
trail_has starts (c ∷ past) b n h from to =
    let here : List ℕ = run (slice_index starts c) (size starts c) in
    elim (in_cases c b past h) [
      | inl same ↦ (
          let e : slice_index starts c ≡ slice_index starts b = ap (slice_index starts) same in
          let f : slice_index starts (c + 1) ≡ slice_index starts (b + 1) =
          ap (λ (k : ℕ). slice_index starts (k + 1)) same in
          any_contains (here ++ trail starts past) n (any_left (λ k. k ≡ n) here (trail starts past)
          (any_run (λ k. k ≡ n) (slice_index starts c) (size starts c) n (omega (arith, e, from))
          (omega (arith, e, f, from, to)) refl)))
      | inr old ↦ contains_right here (trail starts past) n (trail_has starts past b n old from to)
    ]

pub record IsOn (starts past : List ℕ) (n : ℕ) : Type 0 where
  pub block : ℕ
  pub among : Contains past block
  pub from : slice_index starts block ≤ n
  pub to : n < slice_index starts (block + 1)

later_on : (starts past : List ℕ) (c n : ℕ) → IsOn starts past n → IsOn starts (c ∷ past) n
later_on starts past c n on =
    let a = on.among in
    let l = a.1 in
    record { block = on.block; among = (suc a.0, omega (arith, l), a.2); from = on.from; to = on.to }

trail_block : (starts past : List ℕ) (n : ℕ) → Contains (trail starts past) n → IsOn starts past n
trail_block starts [] n h = absurd (in_none n h)
trail_block starts (c ∷ past) n h =
    let here : List ℕ = run (slice_index starts c) (size starts c) in
    elim (any_cases (λ k. k ≡ n) here (trail starts past) (contains_any (here ++ trail starts past) n h)) [
      | inl run_on ↦ (
          let r = run_any (λ k. k ≡ n) (slice_index starts c) (size starts c) run_on in
          let e = r.3 in
          record {
            block = c;
            among = (0, omega arith, refl);
            from = omega (arith, r.1, e);
            to = omega (arith, r.1, r.2, e);
          })
      | inr later ↦ later_on starts past c n (trail_block starts past n (any_contains (trail starts past) n later))
    ]

-- Blocks of a path.

by_block : (graph : Graph) → IsGraph graph → (o : Option Block)
    → All (λ t. t < block_count graph)
    (unwrap_or (option_map (λ s. slice_range graph.targets.items s.first_target s.end_target) o) [])
by_block graph is None = λ k d lt. absurd (omega (arith, lt))
by_block graph is (Some s) =
    All-take (λ t. t < block_count graph) (s.end_target - s.first_target) (drop s.first_target graph.targets.items)
    (All-drop (λ t. t < block_count graph) s.first_target graph.targets.items is.targets)

target_within : (graph : Graph) → IsGraph graph → (b t : ℕ) → Contains (targets_of graph b) t → t < block_count graph
unfolding targets_of
target_within graph is b t h =
    All-contains (λ (n : ℕ). n < block_count graph) (targets_of graph b) t
    (by_block graph is (slice_get graph.blocks.items b)) h

block_within : (graph : Graph) → IsGraph graph → (past : List ℕ) (b : ℕ) → IsPath graph past b → b < block_count graph
block_within graph is [] b path = (let some = is.some in omega (arith, path, some))
block_within graph is (h ∷ past) b path = target_within graph is h b path.1

path_to : (graph : Graph) (past : List ℕ) (b : ℕ) → IsPath graph past b → (x : ℕ) → Contains past x
    → (other : List ℕ) × IsPath graph other x
path_to graph [] b path x h = absurd (in_none x h)
path_to graph (y ∷ past) b path x h = elim (in_cases y x past h) [
  | inl same ↦ (past, subst (λ (k : ℕ). IsPath graph past k) same path.2)
  | inr old ↦ path_to graph past y path.2 x old
]

path_within : (graph : Graph) (past : List ℕ) (b : ℕ) → IsPath graph past b → (x : ℕ) → Contains past x
    → x < block_count graph
path_within graph [] b path x h = absurd (in_none x h)
path_within graph (y ∷ past) b path x h = elim (in_cases y x past h) [
  | inl same ↦ (let l = path.0 in omega (arith, l, same))
  | inr old ↦ path_within graph past y path.2 x old
]

-- A block to which another leads begins at an OpLabel.

next_label : (G : Table) (is : List PlainInst) (n m : ℕ) → Next G is n m → IsBegin is m → IsOp is m is_label
next_label G is n _ (Next.jumps x m target label) begin = label.label
next_label G is n _ (Next.follows not) begin = elim begin [
  | inl label ↦ label
  | inr after ↦ (
      let e = after.1 in
      let same : after.0 ≡ n = omega (arith, e) in
      absurd (not (subst (λ (k : ℕ). IsOp is k is_terminator) same after.2)))
]

label_by : (G : Table) (is : List PlainInst) (f : ℕ) (starts : List ℕ) (graph : Graph) → IsGraphOf G is f starts graph
    → (h c : ℕ) → h < block_count graph → Contains (targets_of graph h) c → 0 < c
    → IsOp is (slice_index starts c) is_label
label_by G is f starts graph g h c within edge pos =
    let count = g.count in
    let more = g.divided.order h (h + 1) (omega arith) (omega (arith, count, within)) in
    let n : ℕ = slice_index starts (h + 1) - 1 in
    let last : n + 1 ≡ slice_index starts (h + 1) = omega (arith, more) in
    let here : IsIn starts h n = record {
      block = omega (arith, count, within);
      from = omega (arith, more, last);
      to = omega (arith, last);
    } in
    let next = (g.targets h c n here last).0 edge in
    next_label G is n (slice_index starts c) next.1 (g.divided.begun c pos next.0)

label_at : (G : Table) (is : List PlainInst) (f : ℕ) (starts : List ℕ) (graph : Graph) → IsGraphOf G is f starts graph
    → (past : List ℕ) (b : ℕ) → IsPath graph past b → 0 < b → IsOp is (slice_index starts b) is_label
label_at G is f starts graph g [] b path pos = absurd (omega (arith, path, pos))
label_at G is f starts graph g (h ∷ past) b path pos = label_by G is f starts graph g h b path.0 path.1 pos

-- the first instructions of blocks stand as these do
lower_start : (is : List PlainInst) (f : ℕ) (starts : List ℕ) → IsDivided is f starts → (b c : ℕ) → b < length starts
    → slice_index starts b < slice_index starts c → b < c
lower_start is f starts d b c within lt = elim (cases_order b c) [
  | inl same ↦ (let e = ap (slice_index starts) same in absurd (omega (arith, e, lt)))
  | inr apart ↦ elim apart [
    | inl less ↦ less
    | inr more ↦ (let h = d.order c b more within in absurd (omega (arith, h, lt)))
  ]
]

not_first : (graph : Graph) (c : ℕ) → IsEarly graph c → 0 < c
not_first graph c early = elim (cases_lt 0 c) [
  | inl pos ↦ pos
  | inr none ↦ absurd (in_none early.block (early.way [] (omega (arith, none))))
]

-- A block of the graph that stands early is one of the function.

on_each : (G : Table) (is : List PlainInst) (f : ℕ) (starts : List ℕ) (graph : Graph) → IsGraphOf G is f starts graph
    → (b c : ℕ) → c + 1 < length starts → b + 1 < length starts → IsOnTheWay graph b c → (past : List ℕ)
    → IsWalk G is f past (slice_index starts c) → Contains past (slice_index starts b)
on_each G is f starts graph g b c c_in b_in way past walk =
    let k = comes G is f starts graph g past (slice_index starts c) walk in
    let e : k.block ≡ c = one_block is f starts g.divided k.block c (slice_index starts c) k.within
    (first_in is f starts g.divided c c_in) in
    let on = way k.blocks (subst (λ (j : ℕ). IsPath graph k.blocks j) e k.path) in
    let lt = g.divided.order b (b + 1) (omega arith) b_in in
    let there = trail_has starts k.blocks b (slice_index starts b) on (omega arith) lt in
    subst (λ (xs : List ℕ). Contains xs (slice_index starts b)) (sym k.divided)
    (contains_right (run (slice_index starts k.block) k.steps) (trail starts k.blocks) (slice_index starts b) there)

early_by : (G : Table) (is : List PlainInst) (f : ℕ) (starts : List ℕ) (graph : Graph)
    → IsGraphOf G is f starts graph → IsGraph graph → (c : ℕ) (early : IsEarly graph c)
    → IsEarlyBy G is f (slice_index starts c) (slice_index starts early.block)
early_by G is f starts graph g ok c early =
    let b = early.block in
    let count = g.count in
    let pos = not_first graph c early in
    let higher = early.higher in
    let on = early.way early.past early.path in
    let to = path_to graph early.past c early.path b on in
    let c_within = block_within graph ok early.past c early.path in
    let b_within = block_within graph ok to.0 b to.1 in
    let c_in : c + 1 < length starts = omega (arith, c_within, count) in
    let b_in : b + 1 < length starts = omega (arith, b_within, count) in (
      record {
        label = label_at G is f starts graph g early.past c early.path pos;
        block = slice_index starts b;
        named = label_at G is f starts graph g to.0 b to.1 (omega (arith, higher));
        higher = g.divided.order c b higher (omega (arith, b_in));
        way = record {
          past = trail starts early.past;
          walk = walk_to G is f starts graph g early.past c c_in early.path;
          each = on_each G is f starts graph g b c c_in b_in early.way;
        };
      },
      refl,
    )

early_walk : (G : Table) (is : List PlainInst) (f : ℕ) (starts : List ℕ) (graph : Graph)
    → IsGraphOf G is f starts graph → IsGraph graph → (c : ℕ) → IsEarly graph c
    → IsEarlyIn G is f (slice_index starts c)
early_walk G is f starts graph g ok c early = (early_by G is f starts graph g ok c early).0

-- And a block of the function that stands early is one of the graph.

pub record IsEarlyAt (starts : List ℕ) (graph : Graph) (n : ℕ) : Type 0 where
  pub block : ℕ
  pub within : block + 1 < length starts
  pub first : slice_index starts block ≡ n
  pub early : IsEarly graph block

pub walk_early : (G : Table) (is : List PlainInst) (f : ℕ) (starts : List ℕ) (graph : Graph)
    → IsGraphOf G is f starts graph → (n : ℕ) → IsEarlyIn G is f n → IsEarlyAt starts graph n
walk_early G is f starts graph g n early =
    let w = early.way in
    let k = comes G is f starts graph g w.past n w.walk in
    let c : ℕ = k.block in
    let c_in = k.within.block in
    let at : slice_index starts c ≡ n = begin_first is f starts g.divided c n k.within (inl early.label) in
    let steps = k.at in
    let before : List ℕ = run (slice_index starts c) k.steps in
    let on = subst (λ (xs : List ℕ). Contains xs early.block) k.divided (w.each w.past w.walk) in
    let there : IsOn starts k.blocks early.block =
    elim (any_cases (λ j. j ≡ early.block) before (trail starts k.blocks)
    (contains_any (before ++ trail starts k.blocks) early.block on)) [
      | inl run_on ↦ (
          let r = run_any (λ j. j ≡ early.block) (slice_index starts c) k.steps run_on in
          let from = r.1 in
          let to = r.2 in
          absurd (omega (arith, from, to, steps, at)))
      | inr later ↦ trail_block starts k.blocks early.block (any_contains (trail starts k.blocks) early.block later)
    ] in
    let b : ℕ = there.block in
    let count = g.count in
    let b_within = path_within graph k.blocks c k.path b there.among in
    let b_in : b + 1 < length starts = omega (arith, b_within, count) in
    let inside : IsIn starts b early.block = record { block = b_in; from = there.from; to = there.to } in
    let to : slice_index starts b ≡ early.block =
    begin_first is f starts g.divided b early.block inside (inl early.named) in
    let higher = early.higher in
    record {
      block = c;
      within = c_in;
      first = at;
      early = record {
        past = k.blocks;
        path = k.path;
        block = b;
        higher = lower_start is f starts g.divided c b (omega (arith, c_in)) (omega (arith, higher, at, to));
        way = λ past path. (
            let walk = subst (λ (j : ℕ). IsWalk G is f (trail starts past) j) at
            (walk_to G is f starts graph g past c c_in path) in
            let o = trail_block starts past early.block (w.each (trail starts past) walk) in
            let o_within = path_within graph past c path o.block o.among in
            let o_inside : IsIn starts o.block early.block =
            record { block = omega (arith, o_within, count); from = o.from; to = o.to } in
            let same = one_block is f starts g.divided o.block b early.block o_inside inside in
            subst (λ (j : ℕ). Contains past j) same o.among);
      };
    }

-- a block of the graph that stands early is among the first instructions
pub early_within : (G : Table) (is : List PlainInst) (f : ℕ) (starts : List ℕ) (graph : Graph)
    → IsGraphOf G is f starts graph → IsGraph graph → (c : ℕ) → IsEarly graph c → c < length starts
early_within G is f starts graph g ok c early =
    let within = block_within graph ok early.past c early.path in
    let count = g.count in
    omega (arith, within, count)

-- the first of the graph is the first of the function
pub first_by : (G : Table) (is : List PlainInst) (f : ℕ) (starts : List ℕ) (graph : Graph)
    → IsGraphOf G is f starts graph → IsGraph graph → (o : Option ℕ) → IsFirstEarly graph o
    → IsFirstIn G is f (option_map (slice_index starts) o)
first_by G is f starts graph g ok None first = λ n early.
    let r = walk_early G is f starts graph g n early in
    first r.block r.early
first_by G is f starts graph g ok (Some c) first = (
  early_walk G is f starts graph g ok c first.0,
  λ m lt early. (
      let r = walk_early G is f starts graph g m early in
      let at = r.first in
      let within = r.within in
      first.1 r.block (lower_start is f starts g.divided r.block c (omega (arith, within)) (omega (arith, at, lt)))
      r.early),
)

-- the first instruction of a higher block that is on the way
pub higher_by : (G : Table) (is : List PlainInst) (f : ℕ) (starts : List ℕ) (graph : Graph)
    → IsGraphOf G is f starts graph → IsGraph graph → (c n h : ℕ) → slice_index starts c ≡ n → IsEarly graph c
    → IsHigher graph c h → IsEarlyBy G is f n (slice_index starts h)
higher_by G is f starts graph g ok c n h at early high =
    subst (λ (m : ℕ). IsEarlyBy G is f m (slice_index starts h)) at
    (early_by G is f starts graph g ok c record {
      past = early.past;
      path = early.path;
      block = h;
      higher = high.higher;
      way = high.way;
    })

pub early_at_within : (G : Table) (is : List PlainInst) (f n : ℕ) → IsEarlyIn G is f n → n < length is
early_at_within G is f n e = (walk_within G is f e.way.past n e.way.walk).begun.within

-- the function of a walk, by its OpFunction and by its last instruction
pub walk_function : (G : Table) (is : List PlainInst) (f : ℕ) (past : List ℕ) (n : ℕ) → IsWalk G is f past n
    → IsOp is f is_function
walk_function G is f _ _ (IsWalk.begins op) = op
walk_function G is f _ _ (IsWalk.goes past n m walk next of) = walk_function G is f past n walk

pub early_function : (G : Table) (is : List PlainInst) (f g n : ℕ) → IsEarlyIn G is f n → IsOfFunction is n g → f ≡ g
early_function G is f g n e of =
    function_same is n f g (walk_within G is f e.way.past n e.way.walk) of

pub of_function : (G : Table) (is : List PlainInst) (f n : ℕ) → IsEarlyIn G is f n → IsOfFunction is n f
of_function G is f n e = walk_within G is f e.way.past n e.way.walk
