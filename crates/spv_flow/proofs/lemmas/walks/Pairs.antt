-- The last labels of a walk, and what a pair of an OpPhi finds on it.
use Rattle.std.proofs.Common.{◌≡◌, ◌<◌, ◌≤◌, ◌⊎◌, ◌++◌, ◌+◌, ◌-◌, ◌∙◌, ℕ, zero, suc, List, [], ◌∷◌, refl, sym, ap}
use Rattle.std.proofs.Common.{subst, inl, inr, length, true, arith}
use Rattle.std.specs.Prelude.{Any, All, Contains, slice_index}
use Rattle.std.proofs.lemmas.Bool.{cases_lt}
use Rattle.spv_module.specs.declared.opcode.TheConstants as opcode
use Rattle.spv_table.specs.Table.{Table}
use Rattle.spv_module.specs.Operand.{PlainInst}
use Rattle.spv_ids.specs.Definition.{IsDefinedAt}
use Rattle.spv_graphs.specs.declared.graph.Graph.{Graph}
use Rattle.spv_graphs.specs.Graph.{targets_of}
use Rattle.spv_graphs.specs.Path.{IsPath, IsAvailable, IsUnavailable}
use Rattle.spv_flow.specs.branches.Target.{is_label, is_phi, IsOp}
use Rattle.spv_flow.specs.branches.inner.Target.{is_function, is_terminator}
use Rattle.spv_flow.specs.branches.Walk.{Next, IsWalk, IsResultAmong, IsLastLabel}
use Rattle.spv_flow.specs.branches.Ready.{ComesFrom}
use Rattle.spv_flow.proofs.lemmas.branches.Firsts.{known}
use Rattle.spv_flow.specs.walks.inner.Divided.{IsIn, IsDivided, IsGraphOf}
use Rattle.spv_flow.proofs.lemmas.walks.Lists.{any_none, any_cases, any_right, any_head, one_division}
use Rattle.spv_flow.proofs.lemmas.walks.Trails.{run, size, trail, run_any, all_run, run_split, trail_defined}
use Rattle.spv_flow.proofs.lemmas.walks.Trails.{trail_only}
use Rattle.spv_flow.proofs.lemmas.walks.Walking.{comes, first_in, begin_first, one_block, through, walk_to}

label_no_phi : (is : List PlainInst) (n : ℕ) → IsOp is n is_label → ¬ (IsOp is n is_phi)
label_no_phi is n l p = let h : is_phi opcode.LABEL ≡ true = known is n opcode.LABEL is_phi l p in cc

function_no_phi : (is : List PlainInst) (n : ℕ) → IsOp is n is_function → ¬ (IsOp is n is_phi)
function_no_phi is n l p = let h : is_phi opcode.FUNCTION ≡ true = known is n opcode.FUNCTION is_phi l p in cc

pub function_no_label : (is : List PlainInst) (n : ℕ) → IsOp is n is_function → ¬ (IsOp is n is_label)
function_no_label is n l p = let h : is_label opcode.FUNCTION ≡ true = known is n opcode.FUNCTION is_label l p in cc

-- no instruction of a block but its first is a label
pub plain_inside : (is : List PlainInst) (f : ℕ) (starts : List ℕ) → IsDivided is f starts → (b n : ℕ) → IsIn starts b n
    → slice_index starts b < n → ¬ (IsOp is n is_label)
plain_inside is f starts d b n i lt l = let e = begin_first is f starts d b n i (inl l) in omega (arith, e, lt)

-- the first block begins first
zero_first : (is : List PlainInst) (f : ℕ) (starts : List ℕ) → IsDivided is f starts → (h : ℕ) → h + 1 < length starts
    → slice_index starts 0 ≤ slice_index starts h
zero_first is f starts d zero inside = omega arith
zero_first is f starts d (suc h) inside = let k = d.order 0 (suc h) (omega arith) (omega (arith, inside)) in
    omega (arith, k)

positive : (is : List PlainInst) (f : ℕ) (starts : List ℕ) → IsDivided is f starts → (n b : ℕ)
    → n + 1 ≡ slice_index starts b → slice_index starts 0 < n + 1 → 0 < b
positive is f starts d n zero e late = absurd (omega (arith, e, late))
positive is f starts d n (suc b) e late = omega arith

next_label : (G : Table) (is : List PlainInst) (f : ℕ) (starts : List ℕ) → IsDivided is f starts
    → (n b m : ℕ) → b + 1 < length starts → m ≡ slice_index starts b → slice_index starts 0 < n + 1 → Next G is n m
    → IsOp is m is_label
next_label G is f starts d n b m inside e late (Next.jumps x _ target label) = label.label
next_label G is f starts d n b _ inside e late (Next.follows not) =
    elim (d.begun b (positive is f starts d n b e late) inside) [
      | inl label ↦ subst (λ (k : ℕ). IsOp is k is_label) (sym e) label
      | inr ended ↦ absurd (let k : ended.0 ≡ n = (let h = ended.1 in omega (arith, h, e)) in
          not (subst (λ (j : ℕ). IsOp is j is_terminator) k ended.2))
    ]

-- what comes after a block begins with a label
pub target_label : (G : Table) (is : List PlainInst) (f : ℕ) (starts : List ℕ) (graph : Graph)
    → IsGraphOf G is f starts graph
    → (h b : ℕ) → h + 1 < length starts → Contains (targets_of graph h) b
    → (b + 1 < length starts) × IsOp is (slice_index starts b) is_label
target_label G is f starts graph g h b inside target =
    let lt : slice_index starts h < slice_index starts (h + 1) = g.divided.order h (h + 1) (omega arith) inside in
    let n : ℕ = slice_index starts (h + 1) - 1 in
    let last : n + 1 ≡ slice_index starts (h + 1) = omega (arith, lt) in
    let here : IsIn starts h n = record { block = inside; from = omega (arith, lt); to = omega (arith, last) } in
    let t = (g.targets h b n here last).0 target in (
      t.0,
      next_label G is f starts g.divided n b (slice_index starts b) t.0 refl
          (omega (arith, last, lt, zero_first is f starts g.divided h inside)) t.1,
    )

-- The last label of a path's trail, and of some instructions of its last block, is that block's.
pub last_label : (G : Table) (is : List PlainInst) (f : ℕ) (starts : List ℕ) (graph : Graph)
    → IsGraphOf G is f starts graph
    → (blocks : List ℕ) (b k m : ℕ) (before : List ℕ) → IsPath graph blocks b → b + 1 < length starts → 0 < k
    → slice_index starts b + k ≤ slice_index starts (b + 1)
    → IsLastLabel is (run (slice_index starts b) k ++ trail starts blocks) m before
    → (m ≡ slice_index starts b) × (before ≡ trail starts blocks)
last_label G is f starts graph g blocks b zero m before path inside some to l = absurd (omega (arith, some))
last_label G is f starts graph g [] b (suc k) m before path inside some to l =
    let P : ℕ → Type 0 = λ n. IsOp is n is_label in
    let s : slice_index starts b ≡ f = ap (slice_index starts) path ∙ g.divided.first in
    let among : Any P (l.later ++ (m ∷ before)) = any_right P l.later (m ∷ before) (any_head P m before l.label) in
    let there : Any P (run (slice_index starts b) (suc k) ++ []) = subst (λ (xs : List ℕ). Any P xs)
    (sym l.divided) among in
    absurd (elim (any_cases P (run (slice_index starts b) (suc k)) [] there) [
      | inr none ↦ any_none P none
      | inl here ↦ (
          let r = run_any P (slice_index starts b) (suc k) here in
          elim (cases_lt (slice_index starts b) r.0) [
            | inl later ↦ plain_inside is f starts g.divided b r.0
                (record { block = inside; from = r.1; to = omega (arith, r.2, to) }) later r.3
            | inr first ↦ (let e : r.0 ≡ f = omega (arith, r.1, first, s) in
                function_no_label is f g.divided.function (subst P e r.3))
          ])
    ])
last_label G is f starts graph g (h ∷ blocks) b (suc k) m before path inside some to l =
    let P : ℕ → Type 0 = λ n. IsOp is n is_label in
    let label = (target_label G is f starts graph g h b (omega (arith, path.0, g.count)) path.1).1 in
    let e = run_split (slice_index starts b) k (trail starts (h ∷ blocks)) in
    let plain : All (λ (n : ℕ). ¬ (P n)) (run (slice_index starts b + 1) k) =
    all_run (λ (n : ℕ). ¬ (P n)) (slice_index starts b + 1) k
    (λ n from below. plain_inside is f starts g.divided b n
    (record { block = inside; from = omega (arith, from); to = omega (arith, below, to) }) (omega (arith, from))) in
    let r = one_division P l.later (run (slice_index starts b + 1) k) before (trail starts (h ∷ blocks)) m
    (slice_index starts b) (sym l.divided ∙ e) l.last plain l.label label in
    (r.0, r.1)

-- and it is the last label of them
pub is_last_label : (is : List PlainInst) (f : ℕ) (starts : List ℕ) → IsDivided is f starts
    → (b k : ℕ) (before : List ℕ) → b + 1 < length starts → 0 < k
    → slice_index starts b + k ≤ slice_index starts (b + 1) → IsOp is (slice_index starts b) is_label
    → IsLastLabel is (run (slice_index starts b) k ++ before) (slice_index starts b) before
is_last_label is f starts d b zero before inside some to label = absurd (omega (arith, some))
is_last_label is f starts d b (suc k) before inside some to label = record {
  later = run (slice_index starts b + 1) k;
  divided = run_split (slice_index starts b) k before;
  label = label;
  last = all_run (λ (n : ℕ). ¬ (IsOp is n is_label)) (slice_index starts b + 1) k
      (λ n from below. plain_inside is f starts d b n
      (record { block = inside; from = omega (arith, from); to = omega (arith, below, to) }) (omega (arith, from)));
}

-- A walk to an OpPhi came through a block before the phi's.
pub record Enters (starts : List ℕ) (graph : Graph) (block parent : ℕ) (before : List ℕ) : Type 0 where
  pub from : ℕ
  pub blocks : List ℕ
  pub path : IsPath graph (from ∷ blocks) block
  pub inside : from + 1 < length starts
  pub first : parent ≡ slice_index starts from
  pub trailed : before ≡ trail starts (from ∷ blocks)

first_no_phi : (G : Table) (is : List PlainInst) (f : ℕ) (starts : List ℕ) (graph : Graph)
    → IsGraphOf G is f starts graph
    → (blocks : List ℕ) (b : ℕ) → IsPath graph blocks b → ¬ (IsOp is (slice_index starts b) is_phi)
first_no_phi G is f starts graph g [] b path phi =
    let e : slice_index starts b ≡ f = ap (slice_index starts) path ∙ g.divided.first in
    function_no_phi is f g.divided.function (subst (λ (k : ℕ). IsOp is k is_phi) e phi)
first_no_phi G is f starts graph g (h ∷ blocks) b path phi =
    label_no_phi is (slice_index starts b)
    (target_label G is f starts graph g h b (omega (arith, path.0, g.count)) path.1).1 phi

-- an OpPhi on a path is not the first instruction of its block
pub after_first : (G : Table) (is : List PlainInst) (f : ℕ) (starts : List ℕ) (graph : Graph)
    → IsGraphOf G is f starts graph
    → (blocks : List ℕ) (b n : ℕ) → IsPath graph blocks b → IsIn starts b n → IsOp is n is_phi
    → slice_index starts b < n
after_first G is f starts graph g blocks b n path i phi = elim (cases_lt (slice_index starts b) n) [
  | inl later ↦ later
  | inr first ↦ (
      let from = i.from in
      let e : n ≡ slice_index starts b = omega (arith, first, from) in
      absurd (first_no_phi G is f starts graph g blocks b path (subst (λ (k : ℕ). IsOp is k is_phi) e phi)))
]

enters : (G : Table) (is : List PlainInst) (f : ℕ) (starts : List ℕ) (graph : Graph) → IsGraphOf G is f starts graph
    → (blocks : List ℕ) (b parent : ℕ) (before earlier : List ℕ) → IsPath graph blocks b → before ≡ trail starts blocks
    → IsLastLabel is before parent earlier → Enters starts graph b parent before
enters G is f starts graph g [] b parent before earlier path e l =
    let P : ℕ → Type 0 = λ n. IsOp is n is_label in
    let among : Any P (l.later ++ (parent ∷ earlier)) = any_right P l.later (parent ∷ earlier)
    (any_head P parent earlier l.label) in
    absurd (any_none P (subst (λ (xs : List ℕ). Any P xs) (sym l.divided ∙ e) among))
enters G is f starts graph g (h ∷ blocks) b parent before earlier path e l =
    let inside : h + 1 < length starts = omega (arith, path.0, g.count) in
    let lt : slice_index starts h < slice_index starts (h + 1) = g.divided.order h (h + 1) (omega arith) inside in
    let r = last_label G is f starts graph g blocks h (size starts h) parent earlier path.2 inside (omega (arith, lt))
    (omega (arith, lt)) (subst (λ (xs : List ℕ). IsLastLabel is xs parent earlier) e l) in
    record { from = h; blocks = blocks; path = path; inside = inside; first = r.0; trailed = e }

pub came_from : (G : Table) (is : List PlainInst) (f : ℕ) (starts : List ℕ) (graph : Graph)
    → IsGraphOf G is f starts graph
    → (b n parent : ℕ) (before : List ℕ) → IsIn starts b n → IsOp is n is_phi → (from : ComesFrom G is n parent before)
    → from.function ≡ f → Enters starts graph b parent before
came_from G is f starts graph g b n parent before i phi from same =
    let walk : IsWalk G is f from.past n = subst (λ (k : ℕ). IsWalk G is k from.past n) same from.walk in
    let c = comes G is f starts graph g from.past n walk in
    let e : c.block ≡ b = one_block is f starts g.divided c.block b n c.within i in
    let at = c.at in
    let to = c.within.to in
    let later = after_first G is f starts graph g c.blocks c.block n c.path c.within phi in
    let here = subst (λ (xs : List ℕ). IsLastLabel is xs from.block before) c.divided from.here in
    let r = last_label G is f starts graph g c.blocks c.block c.steps from.block before c.path c.within.block
    (omega (arith, at, later)) (omega (arith, at, to)) here in
    enters G is f starts graph g c.blocks b parent before from.earlier
    (subst (λ (k : ℕ). IsPath graph c.blocks k) e c.path) r.1 from.from

-- Where the definition stands in the parent, or is available there, the pair finds it.
pub pair_ready : (G : Table) (is : List PlainInst) (f : ℕ) (starts : List ℕ) (graph : Graph)
    → IsGraphOf G is f starts graph
    → (b h n x d parent : ℕ) (before : List ℕ) → IsIn starts b n → IsOp is n is_phi → IsIn starts h parent
    → IsDefinedAt is x d → IsIn starts h d ⊎ IsAvailable graph d h
    → (from : ComesFrom G is n parent before) → from.function ≡ f → IsResultAmong is before x
pair_ready G is f starts graph g b h n x d parent before i phi here at known from same =
    let r = came_from G is f starts graph g b n parent before i phi from same in
    let first : IsIn starts r.from parent = subst (λ (k : ℕ). IsIn starts r.from k) (sym r.first)
    (first_in is f starts g.divided r.from r.inside) in
    let e : h ≡ r.from = one_block is f starts g.divided h r.from parent here first in
    subst (λ (xs : List ℕ). IsResultAmong is xs x) (sym r.trailed)
    (trail_defined G is f starts graph g x d at (r.from ∷ r.blocks) (elim known [
      | inl stands ↦ inl ((g.values r.from d).1 (subst (λ (k : ℕ). IsIn starts k d) e stands))
      | inr available ↦ inr (available r.blocks (subst (λ (k : ℕ). IsPath graph r.blocks k) (sym e) r.path.2))
    ]))

-- a walk to an OpPhi on which a pair does not find its value
pub record IsUnfound (G : Table) (is : List PlainInst) (f n parent x : ℕ) : Type 0 where
  pub before : List ℕ
  pub comes : ComesFrom G is n parent before
  pub same : comes.function ≡ f
  pub undefined : ¬ (IsResultAmong is before x)

-- Where it does not stand in the parent and is unavailable there, the pair does not find it on some walk.
pub pair_missing : (G : Table) (is : List PlainInst) (f : ℕ) (starts : List ℕ) (graph : Graph)
    → IsGraphOf G is f starts graph
    → (b h n x d parent : ℕ) → IsIn starts b n → IsOp is n is_phi → h + 1 < length starts
    → slice_index starts h ≡ parent → IsOp is parent is_label → Contains (targets_of graph h) b
    → ((k : ℕ) → IsDefinedAt is x k → k ≡ d) → ¬ (IsIn starts h d) → IsUnavailable graph d h
    → IsUnfound G is f n parent x
pair_missing G is f starts graph g b h n x d parent i phi inside first label target one apart m =
    let path : IsPath graph (h ∷ m.past) b = (omega (arith, inside, g.count), target, m.path) in
    let to_first = walk_to G is f starts graph g (h ∷ m.past) b i.block path in
    let from = i.from in
    let to = i.to in
    let k : ℕ = n - slice_index starts b in
    let e : slice_index starts b + k ≡ n = omega (arith, from) in
    let later = after_first G is f starts graph g (h ∷ m.past) b n path i phi in
    let walk = through G is f starts g.divided b (trail starts (h ∷ m.past)) i.block to_first k
    (omega (arith, e, to)) in
    let block_label = (target_label G is f starts graph g h b inside target).1 in
    let parent_label : IsOp is (slice_index starts h) is_label = subst (λ (j : ℕ). IsOp is j is_label)
    (sym first) label in
    let lt : slice_index starts h < slice_index starts (h + 1) = g.divided.order h (h + 1) (omega arith) inside in
    record {
      before = trail starts (h ∷ m.past);
      comes = record {
        function = f;
        past = run (slice_index starts b) k ++ trail starts (h ∷ m.past);
        walk = subst (λ (j : ℕ). IsWalk G is f (run (slice_index starts b) k ++ trail starts (h ∷ m.past)) j) e walk;
        block = slice_index starts b;
        here = is_last_label is f starts g.divided b k (trail starts (h ∷ m.past)) i.block (omega (arith, later))
            (omega (arith, e, to)) block_label;
        earlier = trail starts m.past;
        from = subst (λ (j : ℕ). IsLastLabel is (trail starts (h ∷ m.past)) j (trail starts m.past)) first
            (is_last_label is f starts g.divided h (size starts h) (trail starts m.past) inside (omega (arith, lt))
            (omega (arith, lt)) parent_label);
      };
      same = refl;
      undefined = λ among. elim (trail_only G is f starts graph g x d one (h ∷ m.past) b path among) [
        | inl here ↦ apart ((g.values h d).0 here)
        | inr earlier ↦ m.undefined earlier
      ];
    }
