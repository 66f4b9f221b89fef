-- The blocks that a block leads to, and the graph block by block.
use Rattle.std.proofs.Common.{◌≡◌, ◌≤◌, ◌<◌, ◌+◌, ◌-◌, ◌++◌, ◌∙◌, inl, inr, ℕ, zero, suc, List, [], ◌∷◌, Some, length}
use Rattle.std.proofs.Common.{take, drop, refl, sym, ap, subst, arith}
use Rattle.std.specs.Prelude.{slice_get, slice_index, slice_range, Contains}
use Rattle.std.proofs.lemmas.Bool.{cases_lt}
use Rattle.std.proofs.lemmas.List.{length-append, length-drop, take-append-le, drop-append-le}
use Rattle.std.proofs.Math.Seq.{drop-append_seam}
use Rattle.std.proofs.lemmas.List.Elements.{Contains-append_cases}
use Rattle.spv_table.specs.Table.{Table}
use Rattle.spv_module.specs.Operand.{PlainInst}
use Rattle.spv_graphs.specs.declared.graph.Block.{Block}
use Rattle.spv_graphs.specs.declared.graph.Graph.{Graph}
use Rattle.spv_flow.specs.branches.Target.{is_branch, IsOp}
use Rattle.spv_flow.specs.branches.inner.Target.{is_terminator}
use Rattle.spv_flow.specs.branches.Walk.{Next}
use Rattle.spv_flow.specs.declared.walks.code.Code.{Code}
use Rattle.spv_flow.specs.walks.inner.Code.{insts_of, IsCode}
use Rattle.spv_flow.specs.walks.inner.Adds.{AddsBy}
use Rattle.spv_flow.specs.walks.inner.Divided.{IsDivided}
use Rattle.spv_flow.specs.walks.inner.Leading.{HasLabel, LeadsTo, IsBlockAt, AreInGraph}
use Rattle.spv_flow.proofs.lemmas.walks.Adding.{adds_none, adds_one, adds_as}
use Rattle.spv_flow.proofs.lemmas.walks.Asking.{one_start}
use Rattle.spv_flow.proofs.lemmas.walks.Walking.{branch_ends}

jump_label : (G : Table) (is : List PlainInst) (starts : List ℕ) (last c m : ℕ) → IsOp is last is_branch
    → Next G is last m → m ≡ slice_index starts c → c + 1 < length starts → HasLabel G is starts last c
jump_label G is starts last c m branch (Next.jumps x _ target label) e inside =
    (target.operand, record { id = x; used = target.used; inside = inside; label = (let l = label in rw (← e) l) })
jump_label G is starts last c _ branch (Next.follows not) e inside = absurd (not (branch_ends is last branch))

label_jump : (G : Table) (is : List PlainInst) (starts : List ℕ) (last c : ℕ) → IsOp is last is_branch
    → HasLabel G is starts last c → Next G is last (slice_index starts c)
label_jump G is starts last c branch (n, l) =
    Next.jumps l.id (slice_index starts c) (record { branch = branch; operand = n; used = l.used }) l.label

follow_next : (G : Table) (is : List PlainInst) (last m : ℕ) → ¬ (IsOp is last is_branch) → Next G is last m
    → m ≡ last + 1
follow_next G is last m plain (Next.jumps x _ target label) = absurd (plain target.branch)
follow_next G is last _ plain (Next.follows not) = refl

-- a branch leads to the blocks whose labels it has
pub labels_lead : (c : Code) (starts : List ℕ) (block last : ℕ) (xs ys : List ℕ) → IsOp (insts_of c) last is_branch
    → last + 1 ≡ slice_index starts (block + 1)
    → AddsBy c (λ G t. HasLabel G (insts_of c) starts last t) xs ys
    → AddsBy c (λ G t. LeadsTo G (insts_of c) starts block t) xs ys
labels_lead c starts block last xs ys branch e h =
    adds_as c (λ G t. HasLabel G (insts_of c) starts last t) (λ G t. LeadsTo G (insts_of c) starts block t) xs ys h
    (λ G is t l. (
      l.1.inside,
      λ n f. (
          let same : last ≡ n = omega (arith, e, f) in
          subst (λ (k : ℕ). Next G (insts_of c) k (slice_index starts t)) same
          (label_jump G (insts_of c) starts last t branch l)),
    ))
    (λ G is t l. jump_label G (insts_of c) starts last t (slice_index starts t) branch (l.1 last e) refl l.0)

-- a block that no terminator ends leads to the one after it
pub next_leads : (c : Code) (f : ℕ) (starts : List ℕ) (block last : ℕ) (xs : List ℕ) → IsDivided (insts_of c) f starts
    → ¬ (IsOp (insts_of c) last is_branch) → ¬ (IsOp (insts_of c) last is_terminator)
    → last + 1 ≡ slice_index starts (block + 1) → block + 2 < length starts
    → AddsBy c (λ G t. LeadsTo G (insts_of c) starts block t) xs (xs ++ (block + 1) ∷ [])
next_leads c f starts block last xs d plain unended e inside =
    adds_one c (λ G t. LeadsTo G (insts_of c) starts block t) xs (block + 1)
    (λ G is. (
      omega (arith, inside),
      λ n k. (
          let same : n + 1 ≡ slice_index starts (block + 1) = k in
          let at : n ≡ last = omega (arith, k, e) in
          subst (λ (m : ℕ). Next G (insts_of c) n m) same
          (Next.follows (subst (λ (m : ℕ). ¬ (IsOp (insts_of c) m is_terminator)) (sym at) unended))),
    ))
    (λ G is t l. (
    let g = follow_next G (insts_of c) last (slice_index starts t) plain (l.1 last e) in
    one_start (insts_of c) f starts d (block + 1) t (omega (arith, inside)) l.0 (sym (g ∙ e))))

-- one that ends the function leads nowhere
pub none_next : (c : Code) (f : ℕ) (starts : List ℕ) (block last : ℕ) (xs : List ℕ) → IsDivided (insts_of c) f starts
    → ¬ (IsOp (insts_of c) last is_branch)
    → last + 1 ≡ slice_index starts (block + 1) → block + 1 < length starts → length starts ≤ block + 2
    → AddsBy c (λ G t. LeadsTo G (insts_of c) starts block t) xs xs
none_next c f starts block last xs d plain e inside end =
    adds_none c (λ G t. LeadsTo G (insts_of c) starts block t) xs (λ G is t l. (
    let g = follow_next G (insts_of c) last (slice_index starts t) plain (l.1 last e) in
    let w = l.0 in
    let h = d.order t (block + 1) (omega (arith, w, end)) inside in
    omega (arith, g, e, h)))

no_next : (G : Table) (is : List PlainInst) (last m : ℕ) → ¬ (IsOp is last is_branch) → IsOp is last is_terminator
    → ¬ (Next G is last m)
no_next G is last m plain ended (Next.jumps x _ target label) = plain target.branch
no_next G is last _ plain ended (Next.follows not) = not ended

-- one that another terminator ends leads nowhere
pub none_after : (c : Code) (starts : List ℕ) (block last : ℕ) (xs : List ℕ) → ¬ (IsOp (insts_of c) last is_branch)
    → IsOp (insts_of c) last is_terminator
    → last + 1 ≡ slice_index starts (block + 1) → AddsBy c (λ G t. LeadsTo G (insts_of c) starts block t) xs xs
none_after c starts block last xs plain ended e =
    adds_none c (λ G t. LeadsTo G (insts_of c) starts block t) xs
    (λ G is t l. no_next G (insts_of c) last (slice_index starts t) plain ended (l.1 last e))

-- the graph

block_kept : (xs : List Block) (y : Block) (k : ℕ) (x : Block) → slice_get xs k ≡ Some x
    → slice_get (xs ++ y ∷ []) k ≡ Some x
block_kept [] y k x h = cc
block_kept (z ∷ xs) y zero x h = h
block_kept (z ∷ xs) y (suc k) x h = block_kept xs y k x h

block_last : (xs : List Block) (y : Block) → slice_get (xs ++ y ∷ []) (length xs) ≡ Some y
block_last [] y = refl
block_last (z ∷ xs) y = block_last xs y

range_kept : (xs ys : List ℕ) (i j : ℕ) → i ≤ j → j ≤ length xs → slice_range (xs ++ ys) i j ≡ slice_range xs i j
range_kept xs ys i j le within =
    let d = drop-append-le i xs ys (omega (arith, le, within)) in
    let l : length (drop i xs) ≡ length xs - i = length-drop i xs in
    ap (take (j - i)) d ∙ take-append-le (j - i) (drop i xs) ys (omega (arith, l, within, le))

take_all : (xs : List ℕ) (n : ℕ) → n ≡ length xs → take n xs ≡ xs
take_all [] zero e = refl
take_all [] (suc n) e = absurd (omega (arith, e))
take_all (x ∷ xs) zero e = absurd (omega (arith, e))
take_all (x ∷ xs) (suc n) e = ap (λ (us : List ℕ). x ∷ us) (take_all xs n (omega (arith, e)))

range_new : (xs ys : List ℕ) (i j : ℕ) → i ≡ length xs → j ≡ length (xs ++ ys) → slice_range (xs ++ ys) i j ≡ ys
range_new xs ys i j e f =
    let l = length-append xs ys in
    let d : drop i (xs ++ ys) ≡ ys = rw e (drop-append_seam xs ys) in
    ap (take (j - i)) d ∙ take_all ys (j - i) (omega (arith, e, f, l))

block_before : (c : Code) (starts : List ℕ) (g h : Graph) (b : ℕ) (s : Block) (added : List ℕ)
    → h.targets.items ≡ g.targets.items ++ added → h.blocks.items ≡ g.blocks.items ++ s ∷ [] → IsBlockAt c starts g b
    → IsBlockAt c starts h b
block_before c starts g h b s added e f old =
    let from = old.from in
    let to = old.to in
    let l = length-append g.targets.items added in
    let k = ap length e in
    let r : slice_range h.targets.items old.block.first_target old.block.end_target ≡ slice_range g.targets.items
    old.block.first_target old.block.end_target =
    ap (λ (xs : List ℕ). slice_range xs old.block.first_target old.block.end_target) e
    ∙ range_kept g.targets.items added old.block.first_target old.block.end_target from to in
    record {
      block = old.block;
      there = subst (λ (bs : List Block). slice_get bs b ≡ Some old.block) (sym f)
          (block_kept g.blocks.items s b old.block old.there);
      first = old.first;
      end = old.end;
      from = old.from;
      to = omega (arith, to, l, k);
      sound = λ G is t u. old.sound G is t (subst (λ (xs : List ℕ). Contains xs t) r u);
      complete = λ G is t u. subst (λ (xs : List ℕ). Contains xs t) (sym r) (old.complete G is t u);
    }

pub graph_more : (c : Code) (starts : List ℕ) (g h : Graph) (b : ℕ) (s : Block) → (G : Table) × IsCode G c
    → AreInGraph c starts g b → AddsBy c (λ G t. LeadsTo G (insts_of c) starts b t) g.targets.items h.targets.items
    → h.blocks.items ≡ g.blocks.items ++ s ∷ [] → s.first_target ≡ length g.targets.items
    → s.end_target ≡ length h.targets.items → s.first_value ≡ slice_index starts b
    → s.end_value ≡ slice_index starts (b + 1) → AreInGraph c starts h (b + 1)
graph_more c starts g h b s known before adds f from to first end =
    let e = adds.all in
    let l = length-append g.targets.items adds.added in
    let k = ap length e in
    let count = before.count in
    let m = length-append g.blocks.items (s ∷ []) in
    let r : slice_range h.targets.items s.first_target s.end_target ≡ adds.added =
    ap (λ (xs : List ℕ). slice_range xs s.first_target s.end_target) e
    ∙ range_new g.targets.items adds.added s.first_target s.end_target from (to ∙ k) in
    record {
      count = ap length f ∙ omega (arith, m, count);
      each = λ a lt. elim (cases_lt a b) [
        | inl less ↦ block_before c starts g h a s adds.added e f (before.each a less)
        | inr more ↦ (
            let q : b ≡ a = omega (arith, lt, more) in
            let here : IsBlockAt c starts h b = record {
              block = s;
              there = (
                  let p : slice_get (g.blocks.items ++ s ∷ []) b ≡ Some s = subst
                  (λ (n : ℕ). slice_get (g.blocks.items ++ s ∷ []) n ≡ Some s) count
                  (block_last g.blocks.items s) in
                  subst (λ (bs : List Block). slice_get bs b ≡ Some s) (sym f) p);
              first = first;
              end = end;
              from = omega (arith, from, to, l, k);
              to = omega (arith, to);
              sound = λ G is t u. adds.sound t (subst (λ (xs : List ℕ). Contains xs t) r u) G is;
              complete = λ G is t u. subst (λ (xs : List ℕ). Contains xs t) (sym r) (adds.complete t (G, is, u));
            } in
            subst (λ (n : ℕ). IsBlockAt c starts h n) q here)
      ];
      within = λ t u. elim (Contains-append_cases g.targets.items adds.added t
          (subst (λ (xs : List ℕ). Contains xs t) e u)) [
            | inl old ↦ before.within t old
            | inr new ↦ (adds.sound t new known.0 known.1).0
          ];
    }
