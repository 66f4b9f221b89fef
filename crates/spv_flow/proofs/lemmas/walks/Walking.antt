-- Walks of a function, and paths through the graph of its blocks.
use Rattle.std.proofs.Common.{◌≡◌, ◌<◌, ◌≤◌, ◌⊎◌, ◌++◌, ◌+◌, ◌-◌, ◌∙◌, ℕ, zero, suc, List, [], ◌∷◌, refl, sym, ap}
use Rattle.std.proofs.Common.{subst, inl, inr, length, arith}
use Rattle.std.specs.Prelude.{Any, slice_index}
use Rattle.std.proofs.lemmas.Bool.{cases_lt, cases_order, or_left}
use Rattle.spv_table.specs.Table.{Table}
use Rattle.spv_module.specs.Operand.{PlainInst}
use Rattle.spv_layout.specs.Place.{IsOfFunction}
use Rattle.spv_ids.specs.Definition.{IsDefinedAt}
use Rattle.spv_graphs.specs.declared.graph.Graph.{Graph}
use Rattle.spv_graphs.specs.Path.{IsPath, IsAvailable, IsUnavailable}
use Rattle.spv_flow.specs.branches.Target.{is_branch, IsOp}
use Rattle.spv_flow.specs.branches.inner.Target.{is_terminator}
use Rattle.spv_flow.specs.branches.Walk.{Next, IsWalk, IsResultAmong}
use Rattle.spv_flow.proofs.lemmas.branches.Firsts.{holds}
use Rattle.spv_flow.proofs.lemmas.branches.Labelled.{op_holds}
use Rattle.spv_flow.specs.walks.inner.Divided.{IsIn, IsBegin, IsDivided, IsGraphOf}
use Rattle.spv_flow.proofs.lemmas.walks.Lists.{any_head, any_tail, any_cases, any_left, any_right}
use Rattle.spv_flow.proofs.lemmas.walks.Trails.{run, size, trail, any_run, run_any, trail_defined, trail_only}

-- a block has its first instruction
pub first_in : (is : List PlainInst) (f : ℕ) (starts : List ℕ) → IsDivided is f starts → (b : ℕ) → b + 1 < length starts
    → IsIn starts b (slice_index starts b)
first_in is f starts d b within =
    record { block = within; from = omega arith; to = d.order b (b + 1) (omega arith) within }

-- what begins a block is its first instruction
pub begin_first : (is : List PlainInst) (f : ℕ) (starts : List ℕ) → IsDivided is f starts → (b n : ℕ) → IsIn starts b n
    → IsBegin is n → slice_index starts b ≡ n
begin_first is f starts d b zero i begin = (let h = i.from in omega (arith, h))
begin_first is f starts d b (suc n) i begin = elim (cases_lt (slice_index starts b) (suc n)) [
  | inr last ↦ (let h = i.from in omega (arith, h, last))
  | inl before ↦ (
      let e : suc n ≡ n + 1 = omega arith in
      let here : IsIn starts b n = record { block = i.block; from = omega (arith, before); to = omega (arith, i.to) } in
      absurd (d.inner b n here (subst (λ (k : ℕ). IsIn starts b k) e i) (subst (λ (k : ℕ). IsBegin is k) e begin)))
]

pub branch_ends : (is : List PlainInst) (n : ℕ) → IsOp is n is_branch → IsOp is n is_terminator
branch_ends is n op = let h = holds is n is_branch op in
    op_holds is n h.inst is_terminator h.there (or_left (is_branch h.inst.opcode) _ h.holds)

-- A walk goes through the blocks of a path, and through a block up to where it is.
pub record Comes (is : List PlainInst) (starts : List ℕ) (graph : Graph) (past : List ℕ) (n : ℕ) : Type 0 where
  pub block : ℕ
  pub blocks : List ℕ
  pub path : IsPath graph blocks block
  pub within : IsIn starts block n
  pub steps : ℕ
  pub at : n ≡ slice_index starts block + steps
  pub divided : past ≡ run (slice_index starts block) steps ++ trail starts blocks

-- on within a block
stays : (is : List PlainInst) (starts : List ℕ) (graph : Graph) (past : List ℕ) (n : ℕ)
    → (c : Comes is starts graph past n) → n + 1 < slice_index starts (c.block + 1)
    → Comes is starts graph (n ∷ past) (n + 1)
stays is starts graph past n c lt = record {
  block = c.block;
  blocks = c.blocks;
  path = c.path;
  within = record { block = c.within.block; from = (let h = c.within.from in omega (arith, h)); to = lt };
  steps = suc c.steps;
  at = (let h = c.at in omega (arith, h));
  divided = (
      let e = c.at in
      let d = c.divided in
      ap (λ (k : ℕ). k ∷ past) e ∙ ap (λ (xs : List ℕ). (slice_index starts c.block + c.steps) ∷ xs) d);
}

-- from the end of a block to the first instruction of another
crosses : (G : Table) (is : List PlainInst) (f : ℕ) (starts : List ℕ) (graph : Graph) → IsGraphOf G is f starts graph
    → (past : List ℕ) (n b : ℕ) → (c : Comes is starts graph past n) → n + 1 ≡ slice_index starts (c.block + 1)
    → b + 1 < length starts → Next G is n (slice_index starts b)
    → Comes is starts graph (n ∷ past) (slice_index starts b)
crosses G is f starts graph g past n b c last within next = record {
  block = b;
  blocks = c.block ∷ c.blocks;
  path = (
    (let h = c.within.block in omega (arith, h, g.count)),
    (g.targets c.block b n c.within last).1 (within, next),
    c.path,
  );
  within = first_in is f starts g.divided b within;
  steps = 0;
  at = omega arith;
  divided = (
      let e = c.at in
      let d = c.divided in
      let k : suc c.steps ≡ size starts c.block = omega (arith, e, last) in
      let h : n ∷ past ≡ run (slice_index starts c.block) (suc c.steps) ++ trail starts c.blocks =
      ap (λ (k : ℕ). k ∷ past) e ∙ ap (λ (xs : List ℕ). (slice_index starts c.block + c.steps) ∷ xs) d in
      h ∙ ap (λ (k : ℕ). run (slice_index starts c.block) k ++ trail starts c.blocks) k);
}

-- an instruction that comes right after a block begins the next one
next_block : (is : List PlainInst) (f : ℕ) (starts : List ℕ) → IsDivided is f starts → (b c n : ℕ)
    → b + 1 < length starts → n ≡ slice_index starts (b + 1) → IsIn starts c n → c ≡ b + 1
next_block is f starts d b c n within e i = elim (cases_order c (b + 1)) [
  | inl same ↦ same
  | inr apart ↦ elim apart [
    | inl less ↦ absurd (elim (cases_order c b) [
      | inl same ↦ (let h = i.to in
          let k : slice_index starts (c + 1) ≡ slice_index starts (b + 1) = ap
          (λ (j : ℕ). slice_index starts (j + 1)) same in omega (arith, h, k, e))
      | inr other ↦ elim other [
        | inl lower ↦ (let h = i.to in let k = d.order (c + 1) (b + 1) (omega (arith, lower)) within in
            omega (arith, h, k, e))
        | inr higher ↦ omega (arith, less, higher)
      ]
    ])
    | inr more ↦ absurd (
        let h = i.from in
        let k = d.order (b + 1) c more (let w = i.block in omega (arith, w)) in
        omega (arith, h, k, e))
  ]
]

goes_on : (G : Table) (is : List PlainInst) (f : ℕ) (starts : List ℕ) (graph : Graph) → IsGraphOf G is f starts graph
    → (past : List ℕ) (n m : ℕ) → Comes is starts graph past n → Next G is n m → IsOfFunction is m f
    → Comes is starts graph (n ∷ past) m
goes_on G is f starts graph g past n m c (Next.jumps x _ target label) of =
    let end : IsOp is n is_terminator = branch_ends is n target.branch in
    let there = g.divided.all m of in
    let first : slice_index starts there.0 ≡ m = begin_first is f starts g.divided there.0 m there.1
    (inl label.label) in
    let next : Next G is n (slice_index starts there.0) = subst (λ (k : ℕ). Next G is n k) (sym first)
    (Next.jumps x m target label) in
    elim (cases_lt (n + 1) (slice_index starts (c.block + 1))) [
      | inl before ↦ absurd (
          let w = c.within in
          g.divided.inner c.block n w (record
          { block = w.block; from = (let h = w.from in omega (arith, h)); to = before }) (inr (n, refl, end)))
      | inr last ↦ (
          let h = c.within.to in
          let e : n + 1 ≡ slice_index starts (c.block + 1) = omega (arith, h, last) in
          subst (λ (k : ℕ). Comes is starts graph (n ∷ past) k) first
          (crosses G is f starts graph g past n there.0 c e there.1.block next))
    ]
goes_on G is f starts graph g past n _ c (Next.follows not) of =
    elim (cases_lt (n + 1) (slice_index starts (c.block + 1))) [
      | inl before ↦ stays is starts graph past n c before
      | inr last ↦ (
          let h = c.within.to in
          let e : n + 1 ≡ slice_index starts (c.block + 1) = omega (arith, h, last) in
          let there = g.divided.all (n + 1) of in
          let b : there.0 ≡ c.block + 1 = next_block is f starts g.divided c.block there.0
          (n + 1) c.within.block e there.1 in
          let first : slice_index starts there.0 ≡ n + 1 = ap (slice_index starts) b ∙ sym e in
          let next : Next G is n (slice_index starts there.0) = subst (λ (k : ℕ). Next G is n k) (sym first)
          (Next.follows not) in
          subst (λ (k : ℕ). Comes is starts graph (n ∷ past) k) first
          (crosses G is f starts graph g past n there.0 c e there.1.block next))
    ]

pub comes : (G : Table) (is : List PlainInst) (f : ℕ) (starts : List ℕ) (graph : Graph) → IsGraphOf G is f starts graph
    → (past : List ℕ) (n : ℕ) → IsWalk G is f past n → Comes is starts graph past n
comes G is f starts graph g _ _ (IsWalk.begins op) =
    let first = g.divided.first in
    let i = first_in is f starts g.divided 0 (let h = g.divided.some in omega (arith, h)) in
    record {
      block = 0;
      blocks = [];
      path = refl;
      within = subst (λ (k : ℕ). IsIn starts 0 k) first i;
      steps = 0;
      at = omega (arith, first);
      divided = refl;
    }
comes G is f starts graph g _ _ (IsWalk.goes past n m walk next of) =
    goes_on G is f starts graph g past n m (comes G is f starts graph g past n walk) next of

-- a walk to the first instruction of a block goes on through it
pub through : (G : Table) (is : List PlainInst) (f : ℕ) (starts : List ℕ) → IsDivided is f starts
    → (b : ℕ) (past : List ℕ) → b + 1 < length starts → IsWalk G is f past (slice_index starts b)
    → (k : ℕ) → slice_index starts b + k < slice_index starts (b + 1)
    → IsWalk G is f (run (slice_index starts b) k ++ past) (slice_index starts b + k)
through G is f starts d b past within walk zero lt = (
    let e : slice_index starts b ≡ slice_index starts b + 0 = omega arith in
    subst (λ (n : ℕ). IsWalk G is f past n) e walk)
through G is f starts d b past within walk (suc k) lt =
    let e : (slice_index starts b + k) + 1 ≡ slice_index starts b + suc k = omega arith in
    let here : IsIn starts b (slice_index starts b + k) = record
    { block = within; from = omega arith; to = omega (arith, lt) } in
    let there : IsIn starts b ((slice_index starts b + k) + 1) = record
    { block = within; from = omega arith; to = omega (arith, lt) } in
    let earlier = through G is f starts d b past within walk k (omega (arith, lt)) in
    let not : ¬ (IsOp is (slice_index starts b + k) is_terminator) = λ t. d.inner b
    (slice_index starts b + k) here there (inr (slice_index starts b + k, refl, t)) in
    subst (λ (n : ℕ). IsWalk G is f (run (slice_index starts b) (suc k) ++ past) n) e
    (IsWalk.goes (run (slice_index starts b) k ++ past) (slice_index starts b + k)
    ((slice_index starts b + k) + 1) earlier (Next.follows not) (d.of b ((slice_index starts b + k) + 1) there))

-- a path to a block gives a walk to its first instruction
pub walk_to : (G : Table) (is : List PlainInst) (f : ℕ) (starts : List ℕ) (graph : Graph)
    → IsGraphOf G is f starts graph
    → (blocks : List ℕ) (b : ℕ) → b + 1 < length starts → IsPath graph blocks b
    → IsWalk G is f (trail starts blocks) (slice_index starts b)
walk_to G is f starts graph g [] b within path =
    let e : f ≡ slice_index starts b = sym g.divided.first ∙ ap (slice_index starts) (sym path) in
    subst (λ (n : ℕ). IsWalk G is f [] n) e (IsWalk.begins g.divided.function)
walk_to G is f starts graph g (h ∷ blocks) b within path =
    let inside : h + 1 < length starts = omega (arith, path.0, g.count) in
    let lt : slice_index starts h < slice_index starts (h + 1) = g.divided.order h (h + 1) (omega arith) inside in
    let k : ℕ = size starts h - 1 in
    let n : ℕ = slice_index starts h + k in
    let last : n + 1 ≡ slice_index starts (h + 1) = omega (arith, lt) in
    let here : IsIn starts h n = record { block = inside; from = omega arith; to = omega (arith, last) } in
    let to_end : IsWalk G is f (run (slice_index starts h) k ++ trail starts blocks) n =
    through G is f starts g.divided h (trail starts blocks) inside
    (walk_to G is f starts graph g blocks h inside path.2) k (omega (arith, last)) in
    let next : Next G is n (slice_index starts b) = ((g.targets h b n here last).0 path.1).1 in
    let all : suc k ≡ size starts h = omega (arith, lt) in
    subst (λ (m : ℕ). IsWalk G is f (run (slice_index starts h) m ++ trail starts blocks) (slice_index starts b)) all
    (IsWalk.goes (run (slice_index starts h) k ++ trail starts blocks) n (slice_index starts b) to_end next
    (g.divided.of b (slice_index starts b) (first_in is f starts g.divided b within)))

apart_blocks : (is : List PlainInst) (f : ℕ) (starts : List ℕ) → IsDivided is f starts → (b c n : ℕ) → b < c
    → IsIn starts b n → IsIn starts c n → ⊥
apart_blocks is f starts d b c n less i j =
    let to = i.to in
    let from = j.from in
    let w = j.block in
    elim (cases_order (b + 1) c) [
      | inl same ↦ (let e : slice_index starts (b + 1) ≡ slice_index starts c = ap (slice_index starts) same in
          omega (arith, to, from, e))
      | inr other ↦ elim other [
        | inl lower ↦ (let h = d.order (b + 1) c lower (omega (arith, w)) in omega (arith, to, from, h))
        | inr higher ↦ omega (arith, less, higher)
      ]
    ]

-- the block of an instruction is one
pub one_block : (is : List PlainInst) (f : ℕ) (starts : List ℕ) → IsDivided is f starts → (b c n : ℕ) → IsIn starts b n
    → IsIn starts c n → b ≡ c
one_block is f starts d b c n i j = elim (cases_order b c) [
  | inl same ↦ same
  | inr apart ↦ elim apart [
    | inl less ↦ absurd (apart_blocks is f starts d b c n less i j)
    | inr more ↦ absurd (apart_blocks is f starts d c b n more j i)
  ]
]

-- Where the definition stands before in the block, or is available in the block, each walk has come by it.
pub use_ready : (G : Table) (is : List PlainInst) (f : ℕ) (starts : List ℕ) (graph : Graph)
    → IsGraphOf G is f starts graph
    → (b n x d : ℕ) → IsIn starts b n → IsDefinedAt is x d
    → ((slice_index starts b ≤ d) × (d < n)) ⊎ IsAvailable graph d b
    → (past : List ℕ) → IsWalk G is f past n → IsResultAmong is past x
use_ready G is f starts graph g b n x d i at known past walk =
    let c = comes G is f starts graph g past n walk in
    let e : c.block ≡ b = one_block is f starts g.divided c.block b n c.within i in
    let s : slice_index starts c.block ≡ slice_index starts b = ap (slice_index starts) e in
    let P : ℕ → Type 0 = λ m. IsDefinedAt is x m in
    subst (λ (xs : List ℕ). IsResultAmong is xs x) (sym c.divided) (elim known [
      | inl before ↦ any_left P (run (slice_index starts c.block) c.steps) (trail starts c.blocks) (
          let k = c.at in
          any_run P (slice_index starts c.block) c.steps d (omega (arith, before.0, s)) (omega (arith, before.1, k)) at)
      | inr available ↦ any_right P (run (slice_index starts c.block) c.steps) (trail starts c.blocks) (
          trail_defined G is f starts graph g x d at c.blocks
          (available c.blocks (subst (λ (k : ℕ). IsPath graph c.blocks k) e c.path)))
    ])

-- a walk to an instruction that has not come by a definition
pub record IsUnready (G : Table) (is : List PlainInst) (f n x : ℕ) : Type 0 where
  pub past : List ℕ
  pub walk : IsWalk G is f past n
  pub undefined : ¬ (IsResultAmong is past x)

-- Where it does not stand before in the block and is unavailable there, some walk has not.
pub use_missing : (G : Table) (is : List PlainInst) (f : ℕ) (starts : List ℕ) (graph : Graph)
    → IsGraphOf G is f starts graph
    → (b n x d : ℕ) → IsIn starts b n → ((k : ℕ) → IsDefinedAt is x k → k ≡ d)
    → ¬ ((slice_index starts b ≤ d) × (d < n)) → IsUnavailable graph d b → IsUnready G is f n x
use_missing G is f starts graph g b n x d i one apart m =
    let to_first = walk_to G is f starts graph g m.past b i.block m.path in
    let from = i.from in
    let to = i.to in
    let k : ℕ = n - slice_index starts b in
    let e : slice_index starts b + k ≡ n = omega (arith, from) in
    let walk = through G is f starts g.divided b (trail starts m.past) i.block to_first k (omega (arith, e, to)) in
    let P : ℕ → Type 0 = λ j. IsDefinedAt is x j in
    record {
      past = run (slice_index starts b) k ++ trail starts m.past;
      walk = subst (λ (j : ℕ). IsWalk G is f (run (slice_index starts b) k ++ trail starts m.past) j) e walk;
      undefined = λ among. elim (any_cases P (run (slice_index starts b) k) (trail starts m.past) among) [
        | inl here ↦ (
            let r = run_any P (slice_index starts b) k here in
            let same : r.0 ≡ d = one r.0 r.3 in
            apart (omega (arith, r.1, same), omega (arith, r.2, same, e)))
        | inr earlier ↦ m.undefined (trail_only G is f starts graph g x d one m.past b m.path earlier)
      ];
    }

-- A walk to an instruction has come by those before it in its block.

came_step : (G : Table) (is : List PlainInst) (f : ℕ) (starts : List ℕ) → IsDivided is f starts
    → (past : List ℕ) (m n : ℕ) → Next G is m n
    → (b : ℕ) → IsIn starts b n → (P : ℕ → Type 0) (p : ℕ) → slice_index starts b ≤ p → p < n → P p
    → (IsIn starts b m → p < m → Any P past) → Any P (m ∷ past)
came_step G is f starts d past m n (Next.jumps x _ target label) b i P p from to h earlier = (
    let first = begin_first is f starts d b n i (inl label.label) in
    absurd (omega (arith, first, from, to)))
came_step G is f starts d past m _ (Next.follows not) b i P p from to h earlier = elim (cases_lt p m) [
  | inl before ↦ (
      let k = i.to in
      any_tail P m past (earlier (record { block = i.block; from = omega (arith, from, before); to = omega (arith, k) })
      before))
  | inr last ↦ (let e : p ≡ m = omega (arith, last, to) in any_head P m past (subst P e h))
]

before_first : (is : List PlainInst) (f : ℕ) (starts : List ℕ) → IsDivided is f starts → (b p : ℕ)
    → b + 1 < length starts → slice_index starts b ≤ p → p < f → ⊥
before_first is f starts d zero p inside from to = (let e = d.first in omega (arith, e, from, to))
before_first is f starts d (suc b) p inside from to =
    (let e = d.first in let k = d.order 0 (suc b) (omega arith) (omega (arith, inside)) in
    omega (arith, e, k, from, to))

pub came_by : (G : Table) (is : List PlainInst) (f : ℕ) (starts : List ℕ) → IsDivided is f starts
    → (past : List ℕ) (n : ℕ) → IsWalk G is f past n
    → (b : ℕ) → IsIn starts b n → (P : ℕ → Type 0) (p : ℕ) → slice_index starts b ≤ p → p < n → P p → Any P past
came_by G is f starts d _ _ (IsWalk.begins op) b i P p from to h =
    absurd (before_first is f starts d b p i.block from to)
came_by G is f starts d _ _ (IsWalk.goes past m n walk next of) b i P p from to h =
    came_step G is f starts d past m n next b i P p from to h
    (λ j lt. came_by G is f starts d past m walk b j P p from lt h)
