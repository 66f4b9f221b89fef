-- What stands at a place, and what an id's definition is.
use Rattle.std.proofs.Common.{◌≡◌, ◌≢◌, ◌∙◌, ℕ, zero, suc, List, [], ◌∷◌, true, false, nat_eq, Option, Some, None, refl}
use Rattle.std.proofs.Common.{sym, ap, arith, slice_get, option_map, option_and_then, Contains}
use Rattle.std.proofs.lemmas.Option.{same_Some, none-some, slice_get_within, get_or_from_slice_get}
use Rattle.std.proofs.lemmas.Bool.{eq-eqb, ne_eqb}
use Rattle.spv_module.specs.Operand.{PlainInst, result_in, type_in}
use Rattle.spv_module.specs.Width.{has_result, definition_of, type_of}
use Rattle.spv_run.specs.Act.{Act, act_of}
use Rattle.spv_run.specs.At.{act_at, result_at, type_at}
use Rattle.spv_run.specs.Head.{Binding}
use Rattle.spv_run.specs.State.{bound_type}
use Rattle.spv_run.proofs.Fit.{HasOneDefinition}

pub act_from : (is : List PlainInst) (n : ℕ) (i : PlainInst) (a : Act) → slice_get is n ≡ Some i → act_of i ≡ a
    → act_at is n ≡ Some a
unfolding act_at
act_from is n i a h e = ap (option_map act_of) h ∙ ap Some e

pub act_here : (is : List PlainInst) (n : ℕ) (i : PlainInst) → slice_get is n ≡ Some i → act_at is n ≡ Some (act_of i)
act_here is n i h = act_from is n i (act_of i) h refl

mapped : {A B : Type 0} (f : A → B) (o : Option A) (y : B) → option_map f o ≡ Some y
    → (x : A) × (o ≡ Some x) × (f x ≡ y)
mapped f None y e = absurd (none-some y e)
mapped f (Some x) y e = (x, refl, same_Some (f x) y e)

pub act_back : (is : List PlainInst) (n : ℕ) (a : Act) → act_at is n ≡ Some a
    → (i : PlainInst) × (slice_get is n ≡ Some i) × (act_of i ≡ a)
unfolding act_at
act_back is n a h = mapped act_of (slice_get is n) a h

pub act_same : (is : List PlainInst) (n : ℕ) (a b : Act) → act_at is n ≡ Some a → act_at is n ≡ Some b → a ≡ b
act_same is n a b h g = same_Some a b (sym h ∙ g)

pub result_here : (is : List PlainInst) (n : ℕ) (i : PlainInst) → slice_get is n ≡ Some i
    → result_at is n ≡ result_in i.operands
unfolding result_at
result_here is n i h = ap (option_and_then (λ j. result_in j.operands)) h

pub type_here : (is : List PlainInst) (n : ℕ) (i : PlainInst) → slice_get is n ≡ Some i
    → type_at is n ≡ type_in i.operands
unfolding type_at
type_here is n i h = ap (option_and_then (λ j. type_in j.operands)) h

pub some_result : (is : List PlainInst) (n x : ℕ) → result_at is n ≡ Some x
    → (i : PlainInst) × (slice_get is n ≡ Some i) × (result_in i.operands ≡ Some x)
unfolding result_at
some_result is n x h = by_cases (slice_get is n) refl h where
  by_cases : (o : Option PlainInst) → slice_get is n ≡ o → option_and_then (λ i. result_in i.operands) o ≡ Some x
      → (i : PlainInst) × (slice_get is n ≡ Some i) × (result_in i.operands ≡ Some x)
  by_cases None e g = absurd (none-some x g)
  by_cases (Some i) e g = (i, e, g)

-- elements of a list
pub contains_here : (x : ℕ) (xs : List ℕ) → Contains (x ∷ xs) x
contains_here x xs = (zero, omega arith, refl)

pub contains_later : (y x : ℕ) (xs : List ℕ) → Contains xs x → Contains (y ∷ xs) x
contains_later y x xs c = (suc c.0, omega (arith, c.1), c.2)

pub contains_at : (xs : List ℕ) (k x : ℕ) → slice_get xs k ≡ Some x → Contains xs x
contains_at xs k x h = (k, slice_get_within xs k x h, get_or_from_slice_get xs k x x h)

-- the last binding
pub bound_first : (x t : ℕ) (bs : List Binding) → bound_type (record { id = x; tag = t } ∷ bs) x ≡ Some t
bound_first x t bs = let e : nat_eq x x ≡ true = eq-eqb x x refl in rw e refl

pub bound_other : (x t y : ℕ) (bs : List Binding) → (x ≡ y → ⊥)
    → bound_type (record { id = x; tag = t } ∷ bs) y ≡ bound_type bs y
bound_other x t y bs h = let e : nat_eq x y ≡ false = ne_eqb x y h in rw e refl

-- an id that no instruction has as its result
no_definition : (is : List PlainInst) (x : ℕ) → ((m : ℕ) → result_at is m ≢ Some x) → definition_of is x ≡ None
unfolding result_at
no_definition [] x h = refl
no_definition (i ∷ is) x h =
    let e : definition_of is x ≡ None = no_definition is x (λ m g. h (suc m) g) in
    let f : has_result (result_in i.operands) x ≡ false = not_here (result_in i.operands) (h 0) in
    rw (e, f) refl where
      not_here : (o : Option ℕ) → (o ≢ Some x) → has_result o x ≡ false
      not_here None g = refl
      not_here (Some r) g = ne_eqb r x (λ e. g (ap Some e))

-- the definition of an id that only one instruction has as its result
only_definition : (is : List PlainInst) (n x : ℕ) (i : PlainInst) → slice_get is n ≡ Some i
    → result_in i.operands ≡ Some x
    → ((m : ℕ) → result_at is m ≡ Some x → m ≡ n) → definition_of is x ≡ Some i
unfolding result_at
only_definition [] n x i h r only = absurd (none-some i h)
only_definition (j ∷ is) zero x i h r only =
    let e : definition_of is x ≡ None = no_definition is x (λ m g. let w = only (suc m) g in omega (arith, w)) in
    let same : j ≡ i = same_Some j i h in
    let f : has_result (result_in j.operands) x ≡ true = has (result_in j.operands)
    (ap (λ (k : PlainInst). result_in k.operands) same ∙ r) in
    rw (e, f) h where
      has : (o : Option ℕ) → o ≡ Some x → has_result o x ≡ true
      has None g = absurd (none-some x g)
      has (Some y) g = eq-eqb y x (same_Some y x g)
only_definition (j ∷ is) (suc n) x i h r only =
    let e : definition_of is x ≡ Some i = only_definition is n x i h r
    (λ m g. let w = only (suc m) g in omega (arith, w)) in
    rw e refl

pub definition_at : (is : List PlainInst) → HasOneDefinition is → (n x : ℕ) (i : PlainInst) → slice_get is n ≡ Some i
    → result_in i.operands ≡ Some x → definition_of is x ≡ Some i
definition_at is once n x i h r = only_definition is n x i h r (λ m g. once m n x g (result_here is n i h ∙ r))

-- the declared type of a result is that of its instruction
pub type_of_result : (is : List PlainInst) → HasOneDefinition is → (n x : ℕ) → result_at is n ≡ Some x
    → type_of is x ≡ type_at is n
type_of_result is once n x h =
    let d = some_result is n x h in
    let e = definition_at is once n x d.0 d.1 d.2 in
    ap (option_and_then (λ i. type_in i.operands)) e ∙ sym (type_here is n d.0 d.1)
