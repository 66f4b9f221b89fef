-- The walks that miss a value, and the OpLabels that they pass.
use Rattle.std.proofs.Common.{◌≡◌, ◌<◌, ◌≤◌, ◌⊎◌, ◌++◌, ◌+◌, ◌-◌, ◌∙◌, ℕ, zero, suc, List, [], ◌∷◌, refl, sym, ap}
use Rattle.std.proofs.Common.{subst, inl, inr, length, reverse, true, arith}
use Rattle.std.specs.Prelude.{Any, Contains, slice_index}
use Rattle.spv_table.specs.Table.{Table}
use Rattle.spv_module.specs.Operand.{PlainInst}
use Rattle.spv_module.specs.declared.opcode.TheConstants as opcode
use Rattle.spv_layout.proofs.Places.{function_same}
use Rattle.spv_ids.specs.Definition.{IsDefinedAt}
use Rattle.spv_graphs.specs.declared.graph.Graph.{Graph}
use Rattle.spv_graphs.specs.Graph.{targets_of}
use Rattle.spv_graphs.specs.Path.{IsPath, IsDefinedOn}
use Rattle.spv_flow.specs.branches.Target.{is_label, is_phi, IsOp}
use Rattle.spv_flow.specs.branches.Walk.{IsWalk, IsResultAmong, IsLastLabel}
use Rattle.spv_flow.specs.branches.Ready.{ComesFrom}
use Rattle.spv_flow.proofs.lemmas.branches.Firsts.{known}
use Rattle.spv_flow.specs.walks.inner.Divided.{IsIn, IsGraphOf}
use Rattle.spv_flow.proofs.lemmas.walks.Lists.{any_none, any_cases, any_right, any_head}
use Rattle.spv_flow.proofs.lemmas.walks.Trails.{run, size, trail, run_any, trail_defined, trail_only}
use Rattle.spv_flow.proofs.lemmas.walks.Walking.{Comes, comes, one_block, through, walk_to}
use Rattle.spv_flow.proofs.lemmas.walks.Pairs.{after_first, is_last_label, last_label, target_label}
use Rattle.spv_flow.proofs.lemmas.walks.Asking.{one_start}
use Rattle.spv_flow.proofs.lemmas.walks.Deciding.{walk_within}
use Rattle.spv_flow_evidence.specs.walks.Evidence.{blocks_of, AreFewest, AreFewestFrom}
use Rattle.spv_flow_evidence.specs.walks.inner.Way.{labels_of}
use Rattle.spv_flow_evidence.proofs.lemmas.walks.Labels.{walk_blocks, many_labels}

-- an instruction that is no label is after the first of its block, or in the first block
past_label : (G : Table) (is : List PlainInst) (f : ℕ) (starts : List ℕ) (graph : Graph) → IsGraphOf G is f starts graph
    → (blocks : List ℕ) (b n k : ℕ) → IsPath graph blocks b → b + 1 < length starts → slice_index starts b + k ≡ n
    → ¬ (IsOp is n is_label) → (0 < k) ⊎ (blocks ≡ [])
past_label G is f starts graph g [] b n k path inside at not = inr refl
past_label G is f starts graph g (h ∷ blocks) b n (suc k) path inside at not = inl (omega arith)
past_label G is f starts graph g (h ∷ blocks) b n zero path inside at not =
    let there : h + 1 < length starts = omega (arith, path.0, g.count) in
    let e : slice_index starts b ≡ n = omega (arith, at) in
    absurd (not (subst (λ (m : ℕ). IsOp is m is_label) e (target_label G is f starts graph g h b there path.1).1))

-- Uses.

-- a walk to an instruction that misses a definition
pub record IsWalkPast (G : Table) (is : List PlainInst) (f n x : ℕ) (labels : List ℕ) : Type 0 where
  pub past : List ℕ
  pub walk : IsWalk G is f past n
  pub undefined : ¬ (IsResultAmong is past x)
  pub blocks : blocks_of is past ≡ labels

pub use_walk : (G : Table) (is : List PlainInst) (f : ℕ) (starts : List ℕ) (graph : Graph)
    → IsGraphOf G is f starts graph
    → (b n x d : ℕ) (blocks : List ℕ) → IsIn starts b n → ((k : ℕ) → IsDefinedAt is x k → k ≡ d)
    → ¬ ((slice_index starts b ≤ d) × (d < n)) → ¬ (IsOp is n is_label) → IsPath graph blocks b
    → ¬ (IsDefinedOn graph blocks d)
    → IsWalkPast G is f n x (labels_of starts (reverse (b ∷ blocks)))
use_walk G is f starts graph g b n x d blocks i one apart not path undefined =
    let to_first = walk_to G is f starts graph g blocks b i.block path in
    let from = i.from in
    let to = i.to in
    let k : ℕ = n - slice_index starts b in
    let e : slice_index starts b + k ≡ n = omega (arith, from) in
    let walk = through G is f starts g.divided b (trail starts blocks) i.block to_first k (omega (arith, e, to)) in
    let P : ℕ → Type 0 = λ j. IsDefinedAt is x j in
    record {
      past = run (slice_index starts b) k ++ trail starts blocks;
      walk = subst (λ (j : ℕ). IsWalk G is f (run (slice_index starts b) k ++ trail starts blocks) j) e walk;
      undefined = λ among. elim (any_cases P (run (slice_index starts b) k) (trail starts blocks) among) [
        | inl here ↦ (
            let r = run_any P (slice_index starts b) k here in
            let same : r.0 ≡ d = one r.0 r.3 in
            apart (omega (arith, r.1, same), omega (arith, r.2, same, e)))
        | inr earlier ↦ undefined (trail_only G is f starts graph g x d one blocks b path earlier)
      ];
      blocks = walk_blocks G is f starts graph g blocks b k path i.block (omega (arith, e, to))
          (past_label G is f starts graph g blocks b n k path i.block e not);
    }

-- how many blocks a walk passes, by its path
walk_count : (G : Table) (is : List PlainInst) (f : ℕ) (starts : List ℕ) (graph : Graph) → IsGraphOf G is f starts graph
    → (past : List ℕ) (n : ℕ) → (c : Comes is starts graph past n) → ¬ (IsOp is n is_label)
    → length (blocks_of is past) ≡ length c.blocks
walk_count G is f starts graph g past n c not =
    let at = c.at in
    let to = c.within.to in
    let some = past_label G is f starts graph g c.blocks c.block n c.steps c.path c.within.block (sym at) not in
    let all = walk_blocks G is f starts graph g c.blocks c.block c.steps c.path c.within.block
    (omega (arith, at, to)) some in
    ap (λ (xs : List ℕ). length (blocks_of is xs)) c.divided ∙ ap length all ∙ many_labels starts c.blocks c.block

pub use_fewest : (G : Table) (is : List PlainInst) (f : ℕ) (starts : List ℕ) (graph : Graph)
    → IsGraphOf G is f starts graph
    → (b n x d : ℕ) (blocks : List ℕ) → IsIn starts b n → IsDefinedAt is x d → ¬ (IsOp is n is_label)
    → ((other : List ℕ) → IsPath graph other b → ¬ (IsDefinedOn graph other d) → length blocks ≤ length other)
    → AreFewest G is n x (labels_of starts (reverse (b ∷ blocks)))
use_fewest G is f starts graph g b n x d blocks i at not least = λ h past walk none.
    let same : h ≡ f = function_same is n h f (walk_within G is h past n walk) (g.divided.of b n i) in
    let c = comes G is f starts graph g past n (subst (λ (j : ℕ). IsWalk G is j past n) same walk) in
    let e : c.block ≡ b = one_block is f starts g.divided c.block b n c.within i in
    let P : ℕ → Type 0 = λ j. IsDefinedAt is x j in
    let undefined : ¬ (IsDefinedOn graph c.blocks d) =
    λ on. none (subst (λ (xs : List ℕ). IsResultAmong is xs x) (sym c.divided)
    (any_right P (run (slice_index starts c.block) c.steps) (trail starts c.blocks)
    (trail_defined G is f starts graph g x d at c.blocks on))) in
    let l = least c.blocks (subst (λ (j : ℕ). IsPath graph c.blocks j) e c.path) undefined in
    let count = walk_count G is f starts graph g past n c not in
    let own = many_labels starts blocks b in
    omega (arith, l, count, own)

-- Pairs.

-- a walk to an OpPhi that comes from a parent and misses a definition before the OpPhi's block
pub record IsWalkFrom (G : Table) (is : List PlainInst) (n parent x : ℕ) (labels : List ℕ) : Type 0 where
  pub before : List ℕ
  pub comes : ComesFrom G is n parent before
  pub undefined : ¬ (IsResultAmong is before x)
  pub blocks : blocks_of is comes.past ≡ labels

pub pair_walk : (G : Table) (is : List PlainInst) (f : ℕ) (starts : List ℕ) (graph : Graph)
    → IsGraphOf G is f starts graph
    → (b h n x d : ℕ) (past : List ℕ) → IsIn starts b n → IsOp is n is_phi → h + 1 < length starts
    → IsOp is (slice_index starts h) is_label
    → Contains (targets_of graph h) b → ((k : ℕ) → IsDefinedAt is x k → k ≡ d) → ¬ (IsIn starts h d)
    → IsPath graph past h
    → ¬ (IsDefinedOn graph past d) → IsWalkFrom G is n (slice_index starts h) x
    (labels_of starts (reverse (b ∷ h ∷ past)))
pair_walk G is f starts graph g b h n x d past i phi inside label target one apart to_parent undefined =
    let path : IsPath graph (h ∷ past) b = (omega (arith, inside, g.count), target, to_parent) in
    let to_first = walk_to G is f starts graph g (h ∷ past) b i.block path in
    let from = i.from in
    let to = i.to in
    let k : ℕ = n - slice_index starts b in
    let e : slice_index starts b + k ≡ n = omega (arith, from) in
    let later = after_first G is f starts graph g (h ∷ past) b n path i phi in
    let some : 0 < k = omega (arith, later) in
    let walk = through G is f starts g.divided b (trail starts (h ∷ past)) i.block to_first k (omega (arith, e, to)) in
    let block_label = (target_label G is f starts graph g h b inside target).1 in
    let lt : slice_index starts h < slice_index starts (h + 1) = g.divided.order h (h + 1) (omega arith) inside in
    record {
      before = trail starts (h ∷ past);
      comes = record {
        function = f;
        past = run (slice_index starts b) k ++ trail starts (h ∷ past);
        walk = subst (λ (j : ℕ). IsWalk G is f (run (slice_index starts b) k ++ trail starts (h ∷ past)) j) e walk;
        block = slice_index starts b;
        here = is_last_label is f starts g.divided b k (trail starts (h ∷ past)) i.block some
            (omega (arith, e, to)) block_label;
        earlier = trail starts past;
        from = is_last_label is f starts g.divided h (size starts h) (trail starts past) inside (omega (arith, lt))
            (omega (arith, lt)) label;
      };
      undefined = λ among. elim (trail_only G is f starts graph g x d one (h ∷ past) b path among) [
        | inl here ↦ apart ((g.values h d).0 here)
        | inr earlier ↦ undefined earlier
      ];
      blocks = walk_blocks G is f starts graph g (h ∷ past) b k path i.block (omega (arith, e, to)) (inl some);
    }

-- a path to an OpPhi's block that comes from the parent and misses the value is as long
from_parent : (G : Table) (is : List PlainInst) (f : ℕ) (starts : List ℕ) (graph : Graph)
    → IsGraphOf G is f starts graph
    → (b h x d parent : ℕ) (past blocks before earlier : List ℕ) → h + 1 < length starts
    → parent ≡ slice_index starts h → IsDefinedAt is x d
    → ((other : List ℕ) → IsPath graph other h → ¬ (IsDefinedOn graph other d) → length past ≤ length other)
    → IsPath graph blocks b → before ≡ trail starts blocks → IsLastLabel is before parent earlier
    → ¬ (IsResultAmong is before x)
    → suc (length past) ≤ length blocks
from_parent G is f starts graph g b h x d parent past [] before earlier inside first at least path e l none =
    let P : ℕ → Type 0 = λ n. IsOp is n is_label in
    let among : Any P (l.later ++ (parent ∷ earlier)) =
    any_right P l.later (parent ∷ earlier) (any_head P parent earlier l.label) in
    absurd (any_none P (subst (λ (xs : List ℕ). Any P xs) (sym l.divided ∙ e) among))
from_parent G is f starts graph g b h x d parent past (j ∷ blocks) before earlier inside first at least path e l none =
    let there : j + 1 < length starts = omega (arith, path.0, g.count) in
    let lt : slice_index starts j < slice_index starts (j + 1) = g.divided.order j (j + 1) (omega arith) there in
    let r = last_label G is f starts graph g blocks j (size starts j) parent earlier path.2 there (omega (arith, lt))
    (omega (arith, lt)) (subst (λ (xs : List ℕ). IsLastLabel is xs parent earlier) e l) in
    let same : j ≡ h = one_start is f starts g.divided j h there inside (sym r.0 ∙ first) in
    let undefined : ¬ (IsDefinedOn graph blocks d) = λ on. none (subst (λ (xs : List ℕ). IsResultAmong is xs x) (sym e)
    (trail_defined G is f starts graph g x d at (j ∷ blocks) (inr on))) in
    let m = least blocks (subst (λ (i : ℕ). IsPath graph blocks i) same path.2) undefined in
    omega (arith, m)

phi_no_label : (is : List PlainInst) (n : ℕ) → IsOp is n is_phi → ¬ (IsOp is n is_label)
phi_no_label is n p l = let h : is_phi opcode.LABEL ≡ true = known is n opcode.LABEL is_phi l p in cc

pub pair_fewest : (G : Table) (is : List PlainInst) (f : ℕ) (starts : List ℕ) (graph : Graph)
    → IsGraphOf G is f starts graph
    → (b h n x d : ℕ) (past : List ℕ) → IsIn starts b n → IsOp is n is_phi → h + 1 < length starts → IsDefinedAt is x d
    → ((other : List ℕ) → IsPath graph other h → ¬ (IsDefinedOn graph other d) → length past ≤ length other)
    → AreFewestFrom G is n (slice_index starts h) x (labels_of starts (reverse (b ∷ h ∷ past)))
pair_fewest G is f starts graph g b h n x d past i phi inside at least = λ before from none.
    let same : from.function ≡ f = function_same is n from.function f
    (walk_within G is from.function from.past n from.walk) (g.divided.of b n i) in
    let c = comes G is f starts graph g from.past n (subst (λ (j : ℕ). IsWalk G is j from.past n) same from.walk) in
    let later = after_first G is f starts graph g c.blocks c.block n c.path c.within phi in
    let stands = c.at in
    let to = c.within.to in
    let here = subst (λ (xs : List ℕ). IsLastLabel is xs from.block before) c.divided from.here in
    let r = last_label G is f starts graph g c.blocks c.block c.steps from.block before c.path c.within.block
    (omega (arith, stands, later)) (omega (arith, stands, to)) here in
    let l = from_parent G is f starts graph g c.block h x d
    (slice_index starts h) past c.blocks before from.earlier inside refl at least c.path r.1 from.from none in
    let count = walk_count G is f starts graph g from.past n c (phi_no_label is n phi) in
    let own = many_labels starts (h ∷ past) b in
    omega (arith, l, count, own)
