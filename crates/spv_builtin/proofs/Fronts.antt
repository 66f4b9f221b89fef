-- What is kept of patterns, where it passes the tests.
use Rattle.std.proofs.Common.{◌≡◌, ℕ, zero, suc, ◌+◌, ◌<◌, ◌≤◌, Bool, true, false, ◌&&◌, nat_eq, nat_lt, List, [], ◌∷◌, length, map, get_or, refl, sym, ap, ap₂, ◌∙◌, true≢false, arith}
use Rattle.std.specs.Prelude.{if◌then◌else◌}
use Rattle.std.specs.List.{list_any}
use Rattle.std.proofs.lemmas.Bool.{and_parts}
use Rattle.std.proofs.lemmas.Bool.Decides.{nat_tests}
use Rattle.spv_table.specs.declared.front.Front.{Front}
use Rattle.spv_table.specs.declared.front.Head.{Head}
use Rattle.spv_table.specs.declared.front.Head.TheVariants.{Nothing, Result, TypeAndResult}
use Rattle.spv_table.specs.declared.results.Results.{Results}
use Rattle.spv_table.specs.declared.table.Entry.{Entry}
use Rattle.spv_table.specs.Table.{Table, entry_of, pattern_of}
use Rattle.spv_table.specs.inner.Front.{AreFronts, no_front, entry_front}
use Rattle.spv_table.specs.inner.Results.{has_result, results_of}
use Rattle.spv_builtin.specs.inner.Fronts.{same_truth, same_head, same_front, are_results, are_fronts_from, are_fronts}

no : {A : Type 0} → false ≡ true → A
no h = absurd (true≢false (sym h))

truth_is : (a b : Bool) → same_truth a b ≡ true → a ≡ b
truth_is true b h = sym h
truth_is false true h = no h
truth_is false false h = refl

head_is : (a b : Head) → same_head a b ≡ true → a ≡ b
head_is Nothing Nothing h = refl
head_is Nothing Result h = no h
head_is Nothing TypeAndResult h = no h
head_is Result Nothing h = no h
head_is Result Result h = refl
head_is Result TypeAndResult h = no h
head_is TypeAndResult Nothing h = no h
head_is TypeAndResult Result h = no h
head_is TypeAndResult TypeAndResult h = refl

number_is : (a b : ℕ) → nat_eq a b ≡ true → a ≡ b
number_is a b h = grind (arith, nat_tests, h)

front_is : (f g : Front) → same_front f g ≡ true → f ≡ g
front_is f g h =
    let a = and_parts (same_head f.head g.head) (nat_eq f.singles g.singles && (same_truth f.repeated g.repeated && nat_eq f.least g.least)) h in
    let b = and_parts (nat_eq f.singles g.singles) (same_truth f.repeated g.repeated && nat_eq f.least g.least) a.1 in
    let c = and_parts (same_truth f.repeated g.repeated) (nat_eq f.least g.least) b.1 in
    let heads = ap (λ (x : Head). record { head = x; singles = f.singles; repeated = f.repeated; least = f.least }) (head_is f.head g.head a.0) in
    let singles = ap (λ (x : ℕ). record { head = g.head; singles = x; repeated = f.repeated; least = f.least }) (number_is f.singles g.singles b.0) in
    let repeated = ap (λ (x : Bool). record { head = g.head; singles = g.singles; repeated = x; least = f.least }) (truth_is f.repeated g.repeated c.0) in
    let least = ap (λ (x : ℕ). record { head = g.head; singles = g.singles; repeated = g.repeated; least = x }) (number_is f.least g.least c.1) in
    heads ∙ singles ∙ repeated ∙ least

result_is : (r : Results) (a e : Bool) → same_truth r.always a ≡ true → same_truth r.ever e ≡ true → r ≡ record { always = a; ever = e }
result_is r a e h k = ap₂ (λ (x y : Bool). record { always = x; ever = y }) (truth_is r.always a h) (truth_is r.ever e k)

module _ (G : Table) where
  abbrev of : ℕ × Entry → Results
  of e = results_of G e.1

  pub results_are : (es : List (ℕ × Entry)) (rs : List Results) → are_results G es rs ≡ true → rs ≡ map (λ e. results_of G e.1) es
  unfolding are_results
  results_are [] [] h = refl
  results_are [] (r ∷ rs) h = no h
  results_are (e ∷ es) [] h = no h
  results_are (e ∷ es) (r ∷ rs) h =
      let always = list_any (has_result false G) (pattern_of e.1) in
      let ever = list_any (has_result true G) (pattern_of e.1) in
      let a = and_parts (same_truth r.always always) (same_truth r.ever ever && are_results G es rs) h in
      let b = and_parts (same_truth r.ever ever) (are_results G es rs) a.1 in
      ap₂ (λ (x : Results) (xs : List Results). x ∷ xs) (result_is r always ever a.0 b.0) (results_are es rs b.1)

  front_at-place : (i : ℕ) (fs : List Front) → are_fronts_from G i fs ≡ true → (k n : ℕ) → n ≡ i + k → k < length fs → get_or fs k no_front ≡ entry_front G (entry_of G n)
  unfolding are_fronts_from
  front_at-place i [] h k n e l = absurd (omega (arith, l))
  front_at-place i (f ∷ fs) h zero n e l =
      let a = and_parts (same_front f (entry_front G (entry_of G i))) (are_fronts_from G (suc i) fs) h in
      let same : i ≡ n = omega (arith, e) in
      front_is f (entry_front G (entry_of G i)) a.0 ∙ ap (λ m. entry_front G (entry_of G m)) same
  front_at-place i (f ∷ fs) h (suc k) n e l =
      let a = and_parts (same_front f (entry_front G (entry_of G i))) (are_fronts_from G (suc i) fs) h in
      front_at-place (suc i) fs a.1 k n (omega (arith, e)) (omega (arith, l))

  past : (fs : List Front) (n : ℕ) → length fs ≤ n → get_or fs n no_front ≡ no_front
  past [] n h = refl
  past (f ∷ fs) zero h = absurd (omega (arith, h))
  past (f ∷ fs) (suc n) h = past fs n (omega (arith, h))

  at_by : (fs : List Front) → length fs ≡ 331 → are_fronts_from G 0 fs ≡ true → (n : ℕ) (b : Bool) → nat_lt n 331 ≡ b
      → get_or fs n no_front ≡ (if b then entry_front G (entry_of G n) else no_front)
  at_by fs long h n true e =
      let few : n < 331 = grind (arith, nat_tests, e) in
      front_at-place 0 fs h n n (omega arith) (omega (arith, few, long))
  at_by fs long h n false e =
      let far : 331 ≤ n = grind (arith, nat_tests, e) in
      past fs n (omega (arith, far, long))

  pub fronts_are : (fs : List Front) → are_fronts G fs ≡ true → AreFronts G fs
  unfolding are_fronts
  fronts_are fs h =
      let a = and_parts (nat_eq (length fs) 331) (are_fronts_from G 0 fs) h in
      record { at = λ n. at_by fs (number_is (length fs) 331 a.0) a.1 n (nat_lt n 331) refl }
