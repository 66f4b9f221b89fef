-- The first instruction that defines an id, if it is asked for.
use Rattle.std.proofs.Common.{◌≡◌, ◌≤◌, ◌<◌, ◌+◌, ◌-◌, ◌∙◌, ℕ, zero, suc, List, [], ◌∷◌, Option, Some, None, Bool, true}
use Rattle.std.proofs.Common.{false, length, nat_eq, refl, sym, ap, subst, arith}
use Rattle.std.specs.Prelude.{◌&&◌, if◌then◌else◌, nat_lt, option_and_then, slice_get}
use Rattle.std.specs.List.{position_from}
use Rattle.std.proofs.lemmas.Bool.Decides.{nat_tests}
use Rattle.spv_table.specs.Lookups.{is_number}
use Rattle.spv_module.specs.Operand.{PlainInst, result_in}
use Rattle.spv_annotate.specs.Document.{is_of}
use Rattle.spv_annotate.specs.Module.{definition_of, inst_at}
use Rattle.spv_annotate.specs.Page.{if_asked}
use Rattle.spv_annotate.specs.inner.Known.{asked_below}
use Rattle.spv_annotate.proofs.Places.{there}

same_below : (n at : ℕ) → nat_eq n at ≡ false → nat_lt n (at + 1) ≡ nat_lt n at
same_below n at e = by (nat_lt n at) refl
  where
    by : (b : Bool) → nat_lt n at ≡ b → nat_lt n (at + 1) ≡ b
    by true f = grind (arith, nat_tests)
    by false f = grind (arith, nat_tests)

-- the place that is found is one of the list, and what stands there passes the test
record IsPassed {A : Type 0} (p : A → Bool) (xs : List A) (k n : ℕ) : Type 0 where
  behind : k ≤ n
  within : n < k + length xs
  passed : (x : A) → slice_get xs (n - k) ≡ Some x → p x ≡ true

passed_by : {A : Type 0} (p : A → Bool) (xs : List A) (k n : ℕ) → position_from p k xs ≡ Some n → IsPassed p xs k n
passed_by p [] k n e = absurd cc
passed_by {A} p (y ∷ ys) k n e = by (p y) refl (λ f. passed_by p ys (k + 1) n f)
  where
    by : (b : Bool) → p y ≡ b → (position_from p (k + 1) ys ≡ Some n → IsPassed p ys (k + 1) n)
        → IsPassed p (y ∷ ys) k n
    by true f g =
        (let a : Some k ≡ Some n = rw f at e in
        let b : k ≡ n = cc in
        let z : n - k ≡ 0 = omega (arith, b) in
        record {
          behind = omega (arith, b);
          within = omega (arith, b);
          passed = λ x s. let t : slice_get (y ∷ ys) 0 ≡ Some x = subst (λ m. slice_get (y ∷ ys) m ≡ Some x) z s in
              let i : y ≡ x = cc in subst (λ (w : A). p w ≡ true) i f;
        })
    by false f g =
        (let r = g (rw f at e) in
        let b = r.behind in
        let w = r.within in
        let z : n - k ≡ suc (n - (k + 1)) = omega (arith, b) in
        record {
          behind = omega (arith, b);
          within = omega (arith, w);
          passed = λ x s. r.passed x (subst (λ m. slice_get (y ∷ ys) m ≡ Some x) z s);
        })

-- one instruction more, which is not asked for
pub unasked_step : (is : List PlainInst) (asked : Option ℕ) (at : ℕ) (o : Option ℕ) → is_of is asked at ≡ false
    → asked_below is asked at o ≡ asked_below is asked (at + 1) o
unasked_step is asked at None h = refl
unasked_step is asked at (Some n) h = by (nat_eq n at) refl
  where
    by : (b : Bool) → nat_eq n at ≡ b → asked_below is asked at (Some n) ≡ asked_below is asked (at + 1) (Some n)
    by true e =
        (let s : n ≡ at = grind (arith, nat_tests) in
        let f : nat_lt n at ≡ false = grind (arith, nat_tests) in
        let g : nat_lt n (at + 1) ≡ true = grind (arith, nat_tests) in
        let k : is_of is asked n ≡ false = rw s h in
        rw (f, g, k) refl)
    by false e =
        (let s : nat_lt n (at + 1) ≡ nat_lt n at = same_below n at e in
        rw s refl)

-- one more, which is asked for
pub asked_step : (is : List PlainInst) (asked : Option ℕ) (at x : ℕ) (id old new : Option ℕ) → at < length is
    → id ≡ result_in (inst_at is at).operands
    → old ≡ asked_below is asked at (definition_of is x)
    → new ≡ (if is_number x id && is_number at (definition_of is x) then Some at else old)
    → is_of is asked at ≡ true → new ≡ asked_below is asked (at + 1) (definition_of is x)
asked_step is asked at x id old new l r before after h = by (definition_of is x) refl
  where
    never : (b : Bool) → (if b && false then Some at else old) ≡ old
    never true = refl
    never false = refl

    other : (o : Option ℕ) → definition_of is x ≡ o → is_number at o ≡ false → new ≡ asked_below is asked at o
    other o e f = after ∙ (ap (λ (p : Option ℕ). if is_number x id && is_number at p then Some at else old) e
        ∙ (ap (λ (b : Bool). if is_number x id && b then Some at else old) f
        ∙ (never (is_number x id) ∙ (before ∙ ap (asked_below is asked at) e))))

    here : (n : ℕ) → definition_of is x ≡ Some n → nat_eq n at ≡ true → new ≡ asked_below is asked (at + 1) (Some n)
    here n e f =
        (let s : n ≡ at = grind (arith, nat_tests) in
        let z : n - 0 ≡ at = omega (arith, s) in
        let p = passed_by (λ i. is_number x (result_in i.operands)) is 0 n e in
        let t : slice_get is (n - 0) ≡ Some (inst_at is at) = rw z (there is at l) in
        let q : is_number x (result_in (inst_at is at).operands) ≡ true = p.passed (inst_at is at) t in
        let u : is_number x id ≡ true = ap (is_number x) r ∙ q in
        let v : is_number at (definition_of is x) ≡ true = ap (is_number at) e ∙ f in
        let g : nat_lt n (at + 1) ≡ true = grind (arith, nat_tests) in
        let k : is_of is asked n ≡ true = rw s h in
        let w : new ≡ Some at = after ∙ (ap
        (λ (b : Bool). if b && is_number at (definition_of is x) then Some at else old) u
        ∙ ap (λ (b : Bool). if b then Some at else old) v) in
        let m : Some at ≡ asked_below is asked (at + 1) (Some n) = rw (g, k) (ap Some (sym s)) in
        w ∙ m)

    same : (n : ℕ) (b : Bool) → definition_of is x ≡ Some n → nat_eq n at ≡ b
        → new ≡ asked_below is asked (at + 1) (Some n)
    same n true e f = here n e f
    same n false e f = other (Some n) e f ∙ (let s : nat_lt n (at + 1) ≡ nat_lt n at = same_below n at f in rw s refl)

    by : (o : Option ℕ) → definition_of is x ≡ o → new ≡ asked_below is asked (at + 1) o
    by None e = other None e refl
    by (Some n) e = same n (nat_eq n at) e refl

pub none_below : (is : List PlainInst) (asked : Option ℕ) (o : Option ℕ) → asked_below is asked 0 o ≡ None
none_below is asked None = refl
none_below is asked (Some n) = let e : nat_lt n 0 ≡ false = grind (arith, nat_tests) in rw e refl

-- behind the last one
pub all_below : (is : List PlainInst) (asked : Option ℕ) (k x : ℕ) → k ≡ length is
    → asked_below is asked k (definition_of is x) ≡ option_and_then (if_asked is asked) (definition_of is x)
all_below is asked k x l = by (definition_of is x) refl
  where
    by : (o : Option ℕ) → definition_of is x ≡ o → asked_below is asked k o ≡ option_and_then (if_asked is asked) o
    by None e = refl
    by (Some n) e =
        (let p = passed_by (λ i. is_number x (result_in i.operands)) is 0 n e in
        let w = p.within in
        let h : n < k = omega (arith, w, l) in
        let f : nat_lt n k ≡ true = grind (arith, nat_tests) in
        rw f refl)

-- where no function is asked for, all are
pub all_asked : (is : List PlainInst) (o : Option ℕ) → o ≡ option_and_then (if_asked is None) o
all_asked is None = refl
all_asked is (Some n) = refl
