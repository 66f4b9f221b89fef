-- Where ids stand that rise, and what is kept by rank.
use Rattle.std.proofs.Common.{◌≡◌, ◌≢◌, ◌∙◌, ◌<◌, ◌≤◌, ◌+◌, ◌-◌, ◌++◌, ℕ, zero, suc, Bool, true, false, eqb, List, []}
use Rattle.std.proofs.Common.{◌∷◌, length, get_or, set, Option, Some, None, Ok, Err, if◌then◌else◌, refl, sym, ap}
use Rattle.std.proofs.Common.{subst, inl, inr, arith}
use Rattle.std.specs.Prelude.{option_map}
use Rattle.std.specs.List.Sorted.{IsBinarySearchResult}
use Rattle.std.specs.Ordering.{nat_cmp}
use Rattle.std.proofs.lemmas.Bool.{cases_lt, cases_eq}
use Rattle.std.proofs.lemmas.Bool.Decides.{nat_tests}
use Rattle.std.proofs.lemmas.List.{length-append, get_or_append_left, get_or_push, get_or-set_same, get_or-set_other}
use Rattle.std.proofs.lemmas.List.Sorted.{searched}
use Rattle.spv_ranks.specs.Rank.{rank_in, value_at, at_rank}
use Rattle.spv_ranks.specs.inner.Rising.{AreRising, IsGap}

-- An id stands at a place of ids.
pub record IsThere (ids : List ℕ) (x k : ℕ) : Type 0 where
  pub within : k < length ids
  pub here : get_or ids k 0 ≡ x

-- none of the ids before place k is x
abbrev pub NoneBefore : List ℕ → ℕ → ℕ → Type 0
NoneBefore ids x k = (j : ℕ) → j < k → get_or ids j 0 ≢ x

there_next : (i x k : ℕ) (rest : List ℕ) → IsThere rest x k → IsThere (i ∷ rest) x (suc k)
there_next i x k rest h = record { within = omega (arith, h.within); here = h.here }

there_tail : (i x k : ℕ) (rest : List ℕ) → IsThere (i ∷ rest) x (suc k) → IsThere rest x k
there_tail i x k rest h = record { within = omega (arith, h.within); here = h.here }

none_tail : (i x k : ℕ) (rest : List ℕ) → NoneBefore (i ∷ rest) x (suc k) → NoneBefore rest x k
none_tail i x k rest h j lt = h (suc j) (omega arith)

there_by : (i x k : ℕ) (rest : List ℕ) (b : Bool) (o : Option ℕ) → eqb i x ≡ b
    → ((j : ℕ) → o ≡ Some j → IsThere rest x j) → (if b then Some 0 else option_map suc o) ≡ Some k
    → IsThere (i ∷ rest) x k
there_by i x k rest true o t r g = let z : k ≡ 0 = cc in
    rw z (record { within = omega arith; here = grind (arith, nat_tests, t) })
there_by i x k rest false None t r g = absurd (cc)
there_by i x k rest false (Some j) t r g = let s : k ≡ suc j = cc in rw s (there_next i x j rest (r j refl))

-- an id that has a rank stands there
pub rank_there : (ids : List ℕ) (x k : ℕ) → rank_in ids x ≡ Some k → IsThere ids x k
rank_there [] x k e = absurd (cc)
rank_there (i ∷ rest) x k e = there_by i x k rest (eqb i x) (rank_in rest x) refl (λ j r. rank_there rest x j r) e

rank_first : (ids : List ℕ) (x k : ℕ) → IsThere ids x k → NoneBefore ids x k → rank_in ids x ≡ Some k
rank_first [] x k h n = absurd (omega (arith, h.within))
rank_first (i ∷ rest) x zero h n = grind (arith, nat_tests, h.here)
rank_first (i ∷ rest) x (suc k) h n =
    grind (arith, nat_tests, n 0 (omega arith), rank_first rest x k (there_tail i x k rest h) (none_tail i x k rest n))

no_rank : (ids : List ℕ) (x : ℕ) → NoneBefore ids x (length ids) → rank_in ids x ≡ None
no_rank [] x n = refl
no_rank (i ∷ rest) x n = grind (arith, nat_tests, n 0 (omega arith), no_rank rest x (none_tail i x _ rest n))

module _ (ids : List ℕ) (rising : AreRising ids) (x : ℕ) where
  -- an id that stands at a place has it as its rank
  pub found : (k : ℕ) → k < length ids → get_or ids k 0 ≡ x → rank_in ids x ≡ Some k
  found k lt here = rank_first ids x k (record { within = lt; here = here })
      (λ j less same. omega (arith, rising j k less lt, here, same))

  before_gap : (k j : ℕ) → IsGap ids x k → j < k → get_or ids j 0 < x
  before_gap k j g lt = elim (cases_lt (j + 1) k) [
    | inl two ↦
        let l : get_or ids (k - 1) 0 < x = g.lower (k - 1) (omega arith) in
        let r : get_or ids j 0 < get_or ids (k - 1) 0 = rising j (k - 1) (omega arith) (omega (arith, g.within)) in
        omega arith
    | inr one ↦ g.lower j (omega arith)
  ]

  from_gap : (k j : ℕ) → IsGap ids x k → k ≤ j → j < length ids → x < get_or ids j 0
  from_gap k j g le lt = elim (cases_lt k j) [
    | inl more ↦
        let h : x < get_or ids k 0 = g.greater (omega arith) in
        let r : get_or ids k 0 < get_or ids j 0 = rising k j more lt in omega arith
    | inr one ↦ let e : j ≡ k = omega arith in rw e (g.greater (omega arith))
  ]

  -- an id that would stand in a gap has none
  pub gap : (k : ℕ) → IsGap ids x k → rank_in ids x ≡ None
  gap k g = no_rank ids x (λ j lt same. elim (cases_lt j k) [
    | inl less ↦ let h : get_or ids j 0 < x = before_gap k j g less in omega (arith, h, same)
    | inr more ↦ let h : x < get_or ids j 0 = from_gap k j g more lt in omega (arith, h, same)
  ])

  not_falling : (i j : ℕ) → i ≤ j → j < length ids → get_or ids i 0 ≤ get_or ids j 0
  not_falling i j le lt = elim (cases_lt i j) [
    | inl less ↦ let r : get_or ids i 0 < get_or ids j 0 = rising i j less lt in omega arith
    | inr one ↦ let e : j ≡ i = omega arith in rw e (omega arith)
  ]

  -- what a search by halves answers
  pub halves_found : (k : ℕ) → IsBinarySearchResult (λ y. nat_cmp y x) ids (Ok k) → rank_in ids x ≡ Some k
  halves_found k h = let m = searched ids x (Ok k) h not_falling in found k m.0 m.1

  pub halves_none : (k : ℕ) → IsBinarySearchResult (λ y. nat_cmp y x) ids (Err k) → rank_in ids x ≡ None
  halves_none k h =
      let m = searched ids x (Err k) h not_falling in
      let low = m.1 in
      let high = m.2 in
      no_rank ids x (λ j lt same. elim (cases_lt j k) [
        | inl less ↦ let a = low j less in omega (arith, a, same)
        | inr more ↦ let a = high j more lt in omega (arith, a, same)
      ])

-- The ids rise, and are less than a number.
pub record AreBelow (ids : List ℕ) (above : ℕ) : Type 0 where
  pub rising : AreRising ids
  pub below : (k : ℕ) → k < length ids → get_or ids k 0 < above

pub below_none : (ids : List ℕ) (above : ℕ) → ids ≡ [] → AreBelow ids above
below_none ids above e =
    rw e (record { rising = λ j k a b. absurd (omega (arith, b)); below = λ k b. absurd (omega (arith, b)) })

-- an id more, above all before
pub below_more : (ids more : List ℕ) (above x : ℕ) → more ≡ ids ++ (x ∷ []) → above ≤ x → AreBelow ids above
    → AreBelow more (x + 1)
below_more ids more above x e h b =
    let n : length more ≡ length ids + 1 = rw e (length-append ids (x ∷ [])) in
    let old : (k : ℕ) → k < length ids
    → get_or more k 0 ≡ get_or ids k 0 = λ k t. rw e (get_or_append_left ids (x ∷ []) 0 k t) in
    let new : (k : ℕ) → k ≡ length ids → get_or more k 0 ≡ x = λ k q. rw e (get_or_push ids x 0 k (sym q)) in
    record {
      rising = λ j k lt t. elim (cases_lt k (length ids)) [
        | inl a ↦ let u = old j (omega (arith, lt, a)) in let v = old k a in let w = b.rising j k lt a in
            omega (arith, u, v, w)
        | inr a ↦
            let i : j < length ids = omega (arith, lt, t, n) in
            let u = old j i in let v = new k (omega (arith, a, t, n)) in let w = b.below j i in
            omega (arith, u, v, w, h)
      ];
      below = λ k t. elim (cases_lt k (length ids)) [
        | inl a ↦ let u = old k a in let w = b.below k a in omega (arith, u, w, h)
        | inr a ↦ let v = new k (omega (arith, a, t, n)) in omega (arith, v)
      ];
    }

same_ranks : (k j : ℕ) → Some k ≡ Some j → k ≡ j
same_ranks k j e = cc

-- what a list has at the ranks of ids once the value at one rank is written
pub at_rank-set : {A : Type 0} → (other : A) (values : List A) (ids : List ℕ) (x y k : ℕ) (v : A)
    → rank_in ids x ≡ Some k → k < length values
    → at_rank other (set values k v) ids y ≡ (if eqb x y then v else at_rank other values ids y)
at_rank-set other values ids x y k v e lt = by (rank_in ids y) refl where
  here : IsThere ids x k
  here = rank_there ids x k e

  by : (o : Option ℕ) → rank_in ids y ≡ o
      → value_at other (set values k v) o ≡ (if eqb x y then v else value_at other values o)
  by None r = let n : x ≢ y = λ s. let b : rank_in ids y ≡ Some k = rw s at e in absurd (cc) in
      let t : eqb x y ≡ false = grind (arith, nat_tests) in rw t refl
  by (Some j) r = elim (cases_eq k j) [
    | inl same ↦
        let s : x ≡ y = sym here.here ∙ (ap (λ i. get_or ids i 0) same ∙ (rank_there ids y j r).here) in
        let t : eqb x y ≡ true = grind (arith, nat_tests) in rw (t, ← same) (get_or-set_same values k v other lt)
    | inr apart ↦
        let n : x ≢ y = λ s. apart (same_ranks k j (sym e ∙ (ap (rank_in ids) s ∙ r))) in
        let t : eqb x y ≡ false = grind (arith, nat_tests) in
        rw t (get_or-set_other values k j v other (λ s. apart (sym s)))
  ]

-- the same where the ids are seen through a slice
pub found_at : (inside ids seen : List ℕ) (x : ℕ) → inside ≡ ids → seen ≡ inside → AreRising ids → (k : ℕ)
    → k < length seen → get_or seen k 0 ≡ x → Some k ≡ rank_in ids x
found_at inside ids seen x v e r k lt here = let s : seen ≡ ids = e ∙ v in
    sym (found ids r x k (rw (← s) lt) (rw (← s) here))

pub gap_at : (inside ids seen : List ℕ) (x : ℕ) → inside ≡ ids → seen ≡ inside → AreRising ids → (k : ℕ)
    → IsGap seen x k → None ≡ rank_in ids x
gap_at inside ids seen x v e r k g = let s : seen ≡ ids = e ∙ v in sym (gap ids r x k (rw (← s) g))
