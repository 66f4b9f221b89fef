-- The list of the marked blocks.
use Rattle.std.proofs.Common.{◌≡◌, ◌∙◌, ◌++◌, ◌+◌, ◌<◌, ℕ, zero, suc, List, [], ◌∷◌, refl, sym, ap, subst}
use Rattle.std.proofs.Common.{Bool, true, length, get_or, arith}
use Rattle.std.specs.Prelude.{filter, if◌then◌else◌}
use Rattle.std.specs.List.{Contains, range_with_len}
use Rattle.std.specs.List.Sorted.{IsStrictlyIncreasing}
use Rattle.std.proofs.lemmas.Bool.{cond_both}
use Rattle.std.proofs.lemmas.List.Elements.{All-contains, Contains-append_right, filter_passes, filter-append}
use Rattle.std.proofs.lemmas.List.Kept.{IsStrictlyIncreasing-filter}
use Rattle.std.proofs.lemmas.List.FromFn.{length-range_with_len, get_or-range_with_len}
use Rattle.spv_table.specs.Table.{Table}
use Rattle.spv_module.specs.Operand.{PlainInst}
use Rattle.spv_flow.specs.branches.inner.Edges.{marked}
use Rattle.spv_flow_evidence.specs.branches.Evidence.{ArePredecessors}
use Rattle.spv_flow_evidence.specs.branches.inner.Known.{AreMarks, marked_below}

-- an element that passes is kept
kept_at : (p : ℕ → Bool) (xs : List ℕ) (k x : ℕ) → k < length xs → get_or xs k x ≡ x → p x ≡ true
    → Contains (filter p xs) x
kept_at p [] k x l e h = absurd (omega (arith, l))
kept_at p (y ∷ ys) zero x l e h = let q : p y ≡ true = rw e h in rw q (0, omega arith, e)
kept_at p (y ∷ ys) (suc k) x l e h =
    let r = kept_at p ys k x (omega (arith, l)) e h in
    cond_both (p y) (y ∷ filter p ys) (filter p ys) (λ l. Contains l x)
    (λ _. Contains-append_right (y ∷ []) (filter p ys) x r) (λ _. r)

range_has : (n x : ℕ) → x < n → (get_or (range_with_len 0 n) x x ≡ x) × (x < length (range_with_len 0 n))
range_has n x l =
    let plus_none : 0 + x ≡ x = omega arith in
    (get_or-range_with_len 0 n x x l ∙ plus_none, (let e = length-range_with_len 0 n in omega arith))

range_rises : (n : ℕ) → IsStrictlyIncreasing (range_with_len 0 n)
range_rises n k l =
    let e = length-range_with_len 0 n in
    let a = get_or-range_with_len 0 n k 0 (omega arith) in
    let b = get_or-range_with_len 0 n (k + 1) 0 (omega arith) in
    omega arith

range_more : (a n : ℕ) → range_with_len a (n + 1) ≡ range_with_len a n ++ ((a + n) ∷ [])
range_more a zero =
    let e : a ≡ a + zero = omega arith in
    ap (λ m. m ∷ []) e
range_more a (suc n) =
    let e : a + 1 + n ≡ a + suc n = omega arith in
    let m : suc n + 1 ≡ suc (n + 1) = omega arith in
    subst (λ k. range_with_len a k ≡ range_with_len a (suc n) ++ ((a + suc n) ∷ [])) (sym m)
    (ap (λ l. a ∷ l) (range_more (a + 1) n ∙ ap (λ k. range_with_len (a + 1) n ++ (k ∷ [])) e))

pub none_marked : (marks : List Bool) → marked_below marks 0 ≡ []
unfolding marked_below
none_marked marks = refl

-- one block more
pub marked_more : (marks : List Bool) (n : ℕ)
    → marked_below marks (n + 1) ≡ marked_below marks n ++ (if marked marks n then n ∷ [] else [])
unfolding marked_below
marked_more marks n =
    let e : 0 + n ≡ n = omega arith in
    ap (filter (marked marks)) (range_more 0 n ∙ ap (λ k. range_with_len 0 n ++ (k ∷ [])) e) ∙ filter-append
    (marked marks) (range_with_len 0 n) (n ∷ [])

-- a block past the marks is not marked
marked_within : (marks : List Bool) (p : ℕ) → marked marks p ≡ true → p < length marks
marked_within [] p m = cc
marked_within (b ∷ marks) zero m = omega arith
marked_within (b ∷ marks) (suc p) m = let l = marked_within marks p m in omega arith

-- where the marks are those of the predecessors, the marked blocks are the predecessors
pub are_predecessors : (G : Table) (is : List PlainInst) (block : ℕ) (marks : List Bool) → AreMarks G is block marks
    → ArePredecessors G is block (marked_below marks (length marks))
unfolding marked_below
are_predecessors G is block marks are =
    let n = length marks in
    record {
      order = IsStrictlyIncreasing-filter (marked marks) (range_with_len 0 n) (range_rises n);
      each = λ p. (
        λ h. are.sound p (All-contains (λ q. marked marks q ≡ true) (filter (marked marks) (range_with_len 0 n)) p
            (filter_passes (marked marks) (range_with_len 0 n)) h),
        λ leads. let m = are.complete p leads in let r = range_has n p (marked_within marks p m) in
            kept_at (marked marks) (range_with_len 0 n) p p r.1 r.0 m,
      );
    }
