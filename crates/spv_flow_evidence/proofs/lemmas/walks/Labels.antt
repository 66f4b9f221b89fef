-- The OpLabels among the instructions of a walk.
use Rattle.std.proofs.Common.{◌≡◌, ◌<◌, ◌≤◌, ◌⊎◌, ◌++◌, ◌+◌, ◌∙◌, ℕ, zero, suc, List, [], ◌∷◌, Bool, true, false}
use Rattle.std.proofs.Common.{Option, Some, None, refl, sym, ap, subst, inl, inr, length, reverse, arith}
use Rattle.std.specs.Prelude.{All, slice_get, slice_index}
use Rattle.std.specs.List.{filter}
use Rattle.std.proofs.lemmas.Bool.{cases_lt}
use Rattle.std.proofs.lemmas.List.{append-nil, map-append, reverse-append, length-reverse}
use Rattle.std.proofs.lemmas.List.Elements.{filter-append}
use Rattle.spv_table.specs.Table.{Table}
use Rattle.spv_module.specs.Operand.{PlainInst}
use Rattle.spv_graphs.specs.declared.graph.Graph.{Graph}
use Rattle.spv_graphs.specs.Path.{IsPath}
use Rattle.spv_flow.specs.branches.Target.{is_label, IsOp}
use Rattle.spv_flow.proofs.lemmas.branches.Firsts.{holds}
use Rattle.spv_flow.specs.walks.inner.Divided.{IsDivided, IsGraphOf}
use Rattle.spv_flow.proofs.lemmas.walks.Lists.{all_head, all_tail}
use Rattle.spv_flow.proofs.lemmas.walks.Trails.{run, size, trail, all_run, run_split}
use Rattle.spv_flow.proofs.lemmas.walks.Pairs.{plain_inside, function_no_label, target_label}
use Rattle.spv_flow_evidence.specs.walks.Evidence.{is_label_at, blocks_of}
use Rattle.spv_flow_evidence.specs.walks.inner.Way.{labels_of}

-- whether an instruction is a label

pub label_there : (is : List PlainInst) (n : ℕ) → IsOp is n is_label → is_label_at is n ≡ true
label_there is n op = let h = holds is n is_label op in rw h.there h.holds

label_by : (is : List PlainInst) (n : ℕ) (o : Option PlainInst) → slice_get is n ≡ o → ¬ (IsOp is n is_label)
    → is_label_at is n ≡ false
label_by is n None e not = rw e refl
label_by is n (Some i) e not = rw e (by_test (is_label i.opcode) refl)
  where
    by_test : (b : Bool) → is_label i.opcode ≡ b → is_label i.opcode ≡ false
    by_test true t = (let op : IsOp is n is_label = rw e t in absurd (not op))
    by_test false t = t

label_absent : (is : List PlainInst) (n : ℕ) → ¬ (IsOp is n is_label) → is_label_at is n ≡ false
label_absent is n not = label_by is n (slice_get is n) refl not

-- a list without labels
no_labels : (is : List PlainInst) (xs : List ℕ) → All (λ (n : ℕ). ¬ (IsOp is n is_label)) xs
    → filter (is_label_at is) xs ≡ []
no_labels is [] all = refl
no_labels is (n ∷ xs) all =
    let e = label_absent is n (all_head (λ (m : ℕ). ¬ (IsOp is m is_label)) n xs all) in
    rw e (no_labels is xs (all_tail (λ (m : ℕ). ¬ (IsOp is m is_label)) n xs all))

-- the first instructions of a path's blocks but its first, the last of them first
abbrev pub entered : List ℕ → List ℕ → ℕ → List ℕ
entered starts [] b = []
entered starts (h ∷ past) b = slice_index starts b ∷ entered starts past h

-- the instructions before the first label

before_labels : (is : List PlainInst) (f : ℕ) (starts : List ℕ) → IsDivided is f starts → (b k : ℕ) → b ≡ 0
    → b + 1 < length starts → slice_index starts b + k ≤ slice_index starts (b + 1)
    → filter (is_label_at is) (run (slice_index starts b) k) ≡ []
before_labels is f starts d b k first inside to =
    let s : slice_index starts b ≡ f = ap (slice_index starts) first ∙ d.first in
    no_labels is (run (slice_index starts b) k) (all_run (λ (n : ℕ). ¬ (IsOp is n is_label)) (slice_index starts b) k
    (λ n from below. elim (cases_lt (slice_index starts b) n) [
      | inl later ↦ plain_inside is f starts d b n
          (record { block = inside; from = from; to = omega (arith, below, to) }) later
      | inr here ↦ (
          let e : f ≡ n = omega (arith, from, here, s) in
          subst (λ (m : ℕ). ¬ (IsOp is m is_label)) e (function_no_label is f d.function))
    ]))

-- the label of a block that begins with one, and those of the instructions before it
label_first : (is : List PlainInst) (f : ℕ) (starts : List ℕ) → IsDivided is f starts → (b k : ℕ) (before : List ℕ)
    → b + 1 < length starts → slice_index starts b + suc k ≤ slice_index starts (b + 1)
    → IsOp is (slice_index starts b) is_label
    → filter (is_label_at is) (run (slice_index starts b) (suc k) ++ before)
    ≡ slice_index starts b ∷ filter (is_label_at is) before
label_first is f starts d b k before inside to label =
    let s : ℕ = slice_index starts b in
    let plain = no_labels is (run (s + 1) k) (all_run (λ (n : ℕ). ¬ (IsOp is n is_label)) (s + 1) k
    (λ n from below. plain_inside is f starts d b n
    (record { block = inside; from = omega (arith, from); to = omega (arith, below, to) })
    (omega (arith, from)))) in
    let here = label_there is s label in
    let one : filter (is_label_at is) (s ∷ before) ≡ s ∷ filter (is_label_at is) before = rw here refl in
    ap (filter (is_label_at is)) (run_split s k before) ∙ filter-append (is_label_at is) (run (s + 1) k) (s ∷ before)
    ∙ ap (λ (xs : List ℕ). xs ++ filter (is_label_at is) (s ∷ before)) plain ∙ one

-- The labels of a path's trail, and of some instructions of its last block.
pub passed : (G : Table) (is : List PlainInst) (f : ℕ) (starts : List ℕ) (graph : Graph) → IsGraphOf G is f starts graph
    → (blocks : List ℕ) (b k : ℕ) → IsPath graph blocks b → b + 1 < length starts
    → slice_index starts b + k ≤ slice_index starts (b + 1)
    → (0 < k) ⊎ (blocks ≡ []) → filter (is_label_at is) (run (slice_index starts b) k ++ trail starts blocks)
    ≡ entered starts blocks b
passed G is f starts graph g [] b k path inside to some =
    filter-append (is_label_at is) (run (slice_index starts b) k) []
    ∙ append-nil (filter (is_label_at is) (run (slice_index starts b) k))
    ∙ before_labels is f starts g.divided b k path inside to
passed G is f starts graph g (h ∷ blocks) b zero path inside to (inl some) = absurd (omega (arith, some))
passed G is f starts graph g (h ∷ blocks) b zero path inside to (inr none) = cc
passed G is f starts graph g (h ∷ blocks) b (suc k) path inside to some =
    let there : h + 1 < length starts = omega (arith, path.0, g.count) in
    let lt : slice_index starts h < slice_index starts (h + 1) = g.divided.order h (h + 1) (omega arith) there in
    let label = (target_label G is f starts graph g h b there path.1).1 in
    let earlier = passed G is f starts graph g blocks h (size starts h) path.2 there (omega (arith, lt))
    (inl (omega (arith, lt))) in
    label_first is f starts g.divided b k (trail starts (h ∷ blocks)) inside to label
    ∙ ap (λ (xs : List ℕ). slice_index starts b ∷ xs) earlier

-- the labels in order

pub reverse_cons : (x : ℕ) (xs : List ℕ) → reverse (x ∷ xs) ≡ reverse xs ++ x ∷ []
reverse_cons x xs = reverse-append (x ∷ []) xs

labels_more : (starts xs : List ℕ) (b : ℕ) → 0 < length xs
    → labels_of starts (xs ++ b ∷ []) ≡ labels_of starts xs ++ slice_index starts b ∷ []
labels_more starts [] b some = absurd (omega (arith, some))
labels_more starts (x ∷ xs) b some = map-append (slice_index starts) xs (b ∷ [])

pub entered_way : (starts blocks : List ℕ) (b : ℕ)
    → reverse (entered starts blocks b) ≡ labels_of starts (reverse (b ∷ blocks))
entered_way starts [] b = refl
entered_way starts (h ∷ blocks) b =
    let l = length-reverse (h ∷ blocks) in
    let some : 0 < length (reverse (h ∷ blocks)) = omega (arith, l) in
    reverse_cons (slice_index starts b) (entered starts blocks h)
    ∙ ap (λ (xs : List ℕ). xs ++ slice_index starts b ∷ []) (entered_way starts blocks h)
    ∙ sym (labels_more starts (reverse (h ∷ blocks)) b some) ∙ ap (labels_of starts) (sym (reverse_cons b (h ∷ blocks)))

length_entered : (starts blocks : List ℕ) (b : ℕ) → length (entered starts blocks b) ≡ length blocks
length_entered starts [] b = refl
length_entered starts (h ∷ blocks) b = ap suc (length_entered starts blocks h)

-- how many there are
pub many_labels : (starts blocks : List ℕ) (b : ℕ) → length (labels_of starts (reverse (b ∷ blocks))) ≡ length blocks
many_labels starts blocks b =
    ap length (sym (entered_way starts blocks b)) ∙ length-reverse (entered starts blocks b)
    ∙ length_entered starts blocks b

-- The blocks of a walk through a path.
pub walk_blocks : (G : Table) (is : List PlainInst) (f : ℕ) (starts : List ℕ) (graph : Graph)
    → IsGraphOf G is f starts graph
    → (blocks : List ℕ) (b k : ℕ) → IsPath graph blocks b → b + 1 < length starts
    → slice_index starts b + k ≤ slice_index starts (b + 1)
    → (0 < k) ⊎ (blocks ≡ []) → blocks_of is (run (slice_index starts b) k ++ trail starts blocks)
    ≡ labels_of starts (reverse (b ∷ blocks))
walk_blocks G is f starts graph g blocks b k path inside to some =
    ap reverse (passed G is f starts graph g blocks b k path inside to some) ∙ entered_way starts blocks b
