-- Variables, counted: before the functions, and in functions.
use Rattle.std.proofs.Common.{◌≡◌, ◌<◌, ◌≤◌, ◌+◌, ◌∙◌, ◌++◌, ◌||◌, ◌↔◌, ℕ, zero, suc, List, [], ◌∷◌, Bool, true, false}
use Rattle.std.proofs.Common.{Some, IsTrue, if◌then◌else◌, cond, count_by, nat_eq, take, refl, sym, ap, subst, inl, inr}
use Rattle.std.proofs.Common.{arith, eq-eqb, ne_eqb}
use Rattle.std.specs.Prelude.{slice_get}
use Rattle.std.proofs.lemmas.Bool.{cases_Bool, eqb-true, false≢true, false_from_ne_true, or_cases, or_left}
use Rattle.std.proofs.lemmas.Bool.{cases_eq, cases_lt, or_right}
use Rattle.std.proofs.lemmas.List.{take_more}
use Rattle.std.proofs.lemmas.List.Sums.{sum_by_push}
use Rattle.std.proofs.lemmas.Option.{get_or_from_slice_get, none-some, same_Some, slice_get_within}
use Rattle.spv_module.specs.declared.opcode.TheConstants as opcode
use Rattle.spv_module.specs.Operand.{PlainInst}
use Rattle.spv_limits.specs.declared.table.Limit.TheVariants as limit
use Rattle.spv_limits.specs.Counted.{from_functions, is_variable, locals_before, variables_before}
use Rattle.spv_limits.specs.Past.{IsInFunctions}
use Rattle.spv_limits.specs.Table.{most}
use Rattle.spv_limits.specs.inner.Counting.{AreVariables, IsAnswer, IsVariableTooMany, limit_of}
use Rattle.spv_limits.proofs.Modes.{count_no, count_yes}

-- what an instruction adds to a count
abbrev weight : Bool → ℕ
weight b = cond b 1 0

-- some are an OpFunction
abbrev has_function : List PlainInst → Bool
has_function [] = false
has_function (i ∷ is) = nat_eq i.opcode opcode.FUNCTION || has_function is

push_in : (xs : List PlainInst) (i : PlainInst) → has_function xs ≡ true
    → from_functions (xs ++ (i ∷ [])) ≡ from_functions xs ++ (i ∷ [])
push_in [] i e = absurd (false≢true e)
push_in (x ∷ xs) i e = by (nat_eq x.opcode opcode.FUNCTION) e (λ f. push_in xs i f)
  where
    by : (b : Bool) → (b || has_function xs) ≡ true
        → (has_function xs ≡ true → from_functions (xs ++ (i ∷ [])) ≡ from_functions xs ++ (i ∷ []))
        → (if b then x ∷ (xs ++ (i ∷ [])) else from_functions (xs ++ (i ∷ [])))
        ≡ (if b then x ∷ xs else from_functions xs) ++ (i ∷ [])
    by true f rest = refl
    by false f rest = rest f

push_out : (xs : List PlainInst) (i : PlainInst) → has_function xs ≡ false
    → from_functions (xs ++ (i ∷ [])) ≡ from_functions (i ∷ [])
push_out [] i e = refl
push_out (x ∷ xs) i e = by (nat_eq x.opcode opcode.FUNCTION) e (λ f. push_out xs i f)
  where
    by : (b : Bool) → (b || has_function xs) ≡ false
        → (has_function xs ≡ false → from_functions (xs ++ (i ∷ [])) ≡ from_functions (i ∷ []))
        → (if b then x ∷ (xs ++ (i ∷ [])) else from_functions (xs ++ (i ∷ []))) ≡ from_functions (i ∷ [])
    by true f rest = absurd (let never : true ≡ false = f in cc)
    by false f rest = rest f

-- so is one before instruction n
function_there : (is : List PlainInst) (n f : ℕ) (i : PlainInst) → f < n → slice_get is f ≡ Some i
    → i.opcode ≡ opcode.FUNCTION → has_function (take n is) ≡ true
function_there [] n f i l e o = absurd (none-some i e)
function_there (x ∷ is) zero f i l e o = absurd (omega (arith, l))
function_there (x ∷ is) (suc n) zero i l e o = or_left (nat_eq x.opcode opcode.FUNCTION) (has_function (take n is))
    (eq-eqb x.opcode opcode.FUNCTION (ap (λ (j : PlainInst). j.opcode) (same_Some x i e) ∙ o))
function_there (x ∷ is) (suc n) (suc f) i l e o =
    or_right (nat_eq x.opcode opcode.FUNCTION) (has_function (take n is)) (function_there is n f i (omega (arith, l)) e o)

there_function : (is : List PlainInst) (n : ℕ) → has_function (take n is) ≡ true → IsInFunctions is n
there_function [] zero e = absurd (false≢true e)
there_function [] (suc n) e = absurd (false≢true e)
there_function (x ∷ is) zero e = absurd (false≢true e)
there_function (x ∷ is) (suc n) e =
    elim (or_cases (nat_eq x.opcode opcode.FUNCTION) (has_function (take n is)) e) [
      | inl a ↦
          let l : 0 < suc n = omega arith in
          (0, l, record { inst = x; there = refl; same = eqb-true x.opcode opcode.FUNCTION a })
      | inr b ↦
          let r = there_function is n b in
          let l : suc r.0 < suc n = omega (arith, r.1) in
          (suc r.0, l, record { inst = r.2.inst; there = r.2.there; same = r.2.same })
    ]

in_functions : (is : List PlainInst) (n : ℕ) → IsInFunctions is n → has_function (take n is) ≡ true
in_functions is n h = function_there is n h.0 h.2.inst h.1 h.2.there h.2.same

-- one instruction more
one_taken : (is : List PlainInst) (n : ℕ) (i : PlainInst) → slice_get is n ≡ Some i
    → take (n + 1) is ≡ take n is ++ (i ∷ [])
one_taken is n i e = take_more is n i (slice_get_within is n i e)
    ∙ ap (λ (j : PlainInst). take n is ++ (j ∷ [])) (get_or_from_slice_get is n i i e)

still_in : (is : List PlainInst) (n : ℕ) → IsInFunctions is n → IsInFunctions is (n + 1)
still_in is n h = (h.0, omega (arith, h.1), h.2)

still_out : (is : List PlainInst) (n : ℕ) (i : PlainInst) → slice_get is n ≡ Some i
    → (i.opcode ≡ opcode.FUNCTION → ⊥) → IsInFunctions is (n + 1) → IsInFunctions is n
still_out is n i at never h = elim (cases_eq h.0 n) [
  | inl same ↦
      let e : Some h.2.inst ≡ Some i = sym h.2.there ∙ ap (slice_get is) same ∙ at in
      absurd (never (subst (λ (j : PlainInst). j.opcode ≡ opcode.FUNCTION) (same_Some h.2.inst i e) h.2.same))
  | inr apart ↦
      let below : h.0 < n = omega (arith, h.1, apart) in
      (h.0, below, h.2)
]

locals_more : (is : List PlainInst) (n : ℕ) (i : PlainInst) → slice_get is n ≡ Some i → IsInFunctions is n
    → locals_before is (n + 1) ≡ locals_before is n + weight (is_variable i)
locals_more is n i at h =
    ap (λ (xs : List PlainInst). count_by is_variable (from_functions xs)) (one_taken is n i at)
    ∙ ap (count_by is_variable) (push_in (take n is) i (in_functions is n h))
    ∙ sum_by_push (λ (j : PlainInst). cond (is_variable j) 1 0) (from_functions (take n is)) i

-- the count so far, at an instruction that is no OpFunction
pub counted_more : (is : List PlainInst) (n : ℕ) (i : PlainInst) (b : Bool) (count new : ℕ) → slice_get is n ≡ Some i
    → (i.opcode ≡ opcode.FUNCTION → ⊥) → AreVariables is n b count → new ≡ count + weight (is_variable i)
    → new ≤ most (limit_of b) → AreVariables is (n + 1) b new
counted_more is n i b count new at never vars says few = record {
  where_they_are =
      (λ t. still_in is n (vars.where_they_are.0 t), λ h. vars.where_they_are.1 (still_out is n i at never h));
  counted = by b vars.where_they_are vars.counted;
  few = few;
}
  where
    by : (c : Bool) → IsTrue c ↔ IsInFunctions is n → count ≡ (if c then locals_before is n else variables_before is n)
        → new ≡ (if c then locals_before is (n + 1) else variables_before is (n + 1))
    by true w e = let m = locals_more is n i at (w.0 refl) in omega (arith, says, e, m)
    by false w e = elim (cases_Bool (is_variable i)) [
      | inl does ↦
          let m = count_yes is_variable is n i at does in
          let one : weight (is_variable i) ≡ 1 = ap weight does in
          omega (arith, says, e, m, one)
      | inr none ↦
          let m = count_no is_variable is n i at none in
          let zero_more : weight (is_variable i) ≡ 0 = ap weight none in
          omega (arith, says, e, m, zero_more)
    ]

pub no_variable : (is : List PlainInst) (n : ℕ) (i : PlainInst) → (i.opcode ≡ opcode.VARIABLE → ⊥)
    → ¬ (IsVariableTooMany is n i)
no_variable is n i never v = never (eqb-true i.opcode opcode.VARIABLE v.0)

-- neither an OpVariable nor an OpFunction
pub other_answer : (is : List PlainInst) (n : ℕ) (i : PlainInst) (b : Bool) (count : ℕ) → slice_get is n ≡ Some i
    → (i.opcode ≡ opcode.VARIABLE → ⊥) → (i.opcode ≡ opcode.FUNCTION → ⊥) → AreVariables is n b count
    → (¬ (IsVariableTooMany is n i)) × AreVariables is (n + 1) b count
other_answer is n i b count at first second vars =
    let none : weight (is_variable i) ≡ 0 =
    ap weight (ne_eqb i.opcode opcode.VARIABLE first) in
    (no_variable is n i first, counted_more is n i b count count at second vars (omega (arith, none)) vars.few)

-- an OpVariable
pub variable_answer : (is : List PlainInst) (n : ℕ) (i : PlainInst) (b r : Bool) (count : ℕ) (c : Bool) (new : ℕ)
    → slice_get is n ≡ Some i → i.opcode ≡ opcode.VARIABLE → c ≡ b → new ≡ count + 1
    → IsTrue r ↔ (most (limit_of b) < count + 1) → AreVariables is n b count
    → IsAnswer r (IsVariableTooMany is n i) (AreVariables is (n + 1) c new)
variable_answer is n i b r count c new at op same says told vars = by r told
  where
    own : is_variable i ≡ true
    own = eq-eqb i.opcode opcode.VARIABLE op

    no_function : i.opcode ≡ opcode.FUNCTION → ⊥
    no_function f = let e : opcode.VARIABLE ≡ opcode.FUNCTION = sym op ∙ f in omega (arith, e)

    over : (d : Bool) → IsTrue d ↔ IsInFunctions is n
        → count ≡ (if d then locals_before is n else variables_before is n) → most (limit_of d) ≤ count
        → IsVariableTooMany is n i
    over true w e l = (own, inr (w.0 refl, subst (λ (q : ℕ). most limit.Locals ≤ q) e l))
    over false w e l =
        (own, inl (λ h. false≢true (w.1 h), subst (λ (q : ℕ). most limit.Globals ≤ q) e l))

    under : (d : Bool) → IsTrue d ↔ IsInFunctions is n
        → count ≡ (if d then locals_before is n else variables_before is n) → count + 1 ≤ most (limit_of d)
        → ¬ (IsVariableTooMany is n i)
    under true w e l v = elim v.1 [
      | inl g ↦ g.0 (w.0 refl)
      | inr h ↦ let m : 524287 ≤ locals_before is n = h.1 in let k : count + 1 ≤ 524287 = l in omega (arith, m, k, e)
    ]
    under false w e l v = elim v.1 [
      | inl g ↦ let m : 65535 ≤ variables_before is n = g.1 in let k : count + 1 ≤ 65535 = l in omega (arith, m, k, e)
      | inr h ↦ false≢true (w.1 h.0)
    ]

    by : (q : Bool) → IsTrue q ↔ (most (limit_of b) < count + 1)
        → IsAnswer q (IsVariableTooMany is n i) (AreVariables is (n + 1) c new)
    by true t =
        let l = t.0 refl in
        over b vars.where_they_are vars.counted (omega (arith, l))
    by false t =
        let small : count + 1 ≤ most (limit_of b) =
        elim (cases_lt (most (limit_of b)) (count + 1)) [
          | inl l ↦ absurd (false≢true (t.1 l))
          | inr k ↦ k
        ] in
        let one : weight (is_variable i) ≡ 1 = ap weight own in (
          under b vars.where_they_are vars.counted small,
          subst (λ (d : Bool). AreVariables is (n + 1) d new) (sym same)
              (counted_more is n i b count new at no_function vars (omega (arith, says, one)) (omega (arith, says, small))),
        )

-- an OpFunction
pub function_answer : (is : List PlainInst) (n : ℕ) (i : PlainInst) (b : Bool) (count : ℕ) (c : Bool) (new : ℕ)
    → slice_get is n ≡ Some i → i.opcode ≡ opcode.FUNCTION → IsTrue c → new ≡ (if b then count else 0)
    → AreVariables is n b count → AreVariables is (n + 1) c new
function_answer is n i b count c new at op local says vars = record {
  where_they_are = (λ _. (n, omega arith, record { inst = i; there = at; same = op }), λ _. local);
  counted = subst (λ (d : Bool). new ≡ (if d then locals_before is (n + 1) else variables_before is (n + 1))) (sym local)
      (by b vars.where_they_are vars.counted says);
  few = subst (λ (d : Bool). new ≤ most (limit_of d)) (sym local) (small b vars.few says);
}
  where
    none : is_variable i ≡ false
    none = ne_eqb i.opcode opcode.VARIABLE
        (λ f. let e : opcode.FUNCTION ≡ opcode.VARIABLE = sym op ∙ f in omega (arith, e))

    zero_more : weight (is_variable i) ≡ 0
    zero_more = ap weight none

    by : (d : Bool) → IsTrue d ↔ IsInFunctions is n → count ≡ (if d then locals_before is n else variables_before is n)
        → new ≡ (if d then count else 0) → new ≡ locals_before is (n + 1)
    by true w e s = let m = locals_more is n i at (w.0 refl) in omega (arith, s, e, m, zero_more)
    by false w e s =
        let out = false_from_ne_true (has_function (take n is)) (λ h. false≢true (w.1 (there_function is n h))) in
        let all = ap (λ (xs : List PlainInst). count_by is_variable (from_functions xs)) (one_taken is n i at)
        ∙ ap (count_by is_variable) (push_out (take n is) i out) in
        let begins : from_functions (i ∷ []) ≡ i ∷ [] =
        ap (λ (c : Bool). if c then i ∷ [] else []) (eq-eqb i.opcode opcode.FUNCTION op) in
        let counts : count_by is_variable (i ∷ []) ≡ 0 = ap (λ (c : Bool). 0 + weight c) none in
        s ∙ sym (all ∙ ap (count_by is_variable) begins ∙ counts)

    small : (d : Bool) → count ≤ most (limit_of d) → new ≡ (if d then count else 0) → new ≤ most limit.Locals
    small true l s = subst (λ (q : ℕ). q ≤ most limit.Locals) (sym s) l
    small false l s = let z : new ≡ 0 = s in let goal : new ≤ 524287 = omega (arith, z) in goal
