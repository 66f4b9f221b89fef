-- What opcodes ask that take any number of values, as a whole.
use Rattle.std.proofs.Common.{◌≡◌, ◌+◌, ◌-◌, ◌++◌, ℕ, zero, suc, List, [], ◌∷◌, Option, Some, None, Bool, true, false}
use Rattle.std.proofs.Common.{refl, ap, subst, length, drop, arith}
use Rattle.std.specs.Prelude.{IsSomeAnd, slice_get}
use Rattle.std.specs.List.{AllByRecursion}
use Rattle.spv_module.specs.Operand.{Plain, PlainInst}
use Rattle.spv_module.specs.Operand as operand
use Rattle.spv_type_forms.specs.declared.form.Form.{Form}
use Rattle.spv_type_forms.specs.declared.form.Form.TheVariants as form
use Rattle.spv_type_forms.specs.Form.{form_of}
use Rattle.spv_type_forms.specs.Types.{class_in, pointee_in, IsSomeInt, PointsTo}
use Rattle.spv_conditions.specs.declared.asked.Rest.{Rest}
use Rattle.spv_conditions.specs.declared.asked.Rest.TheVariants as beside
use Rattle.spv_conditions.specs.declared.asked.Asked.{Asked}
use Rattle.spv_conditions.specs.declared.asked.Asked.TheVariants as asked
use Rattle.spv_conditions.specs.declared.asked.Asks.{Asks}
use Rattle.spv_conditions.specs.declared.asked.Asks.TheVariants as asks
use Rattle.spv_conditions.specs.declared.asked.Each.TheVariants as each
use Rattle.spv_type_kinds.specs.declared.kinds.Kind.TheVariants as kind
use Rattle.spv_type_kinds.specs.declared.kinds.Relation.TheVariants as relation
use Rattle.spv_conditions.specs.declared.seat.Seat.TheVariants as seat
use Rattle.spv_conditions.specs.Chain.{first_index, led_to}
use Rattle.spv_conditions.specs.Variable.{initializers_in, class_of, HasClass, MayHave, MayInitialize}
use Rattle.spv_conditions.specs.Condition.{Holds}
use Rattle.spv_conditions.specs.Asks.{each_from, indexes_from, conditions_in}
use Rattle.spv_ops.specs.inner.Chain.{Chains, ChainsByElement}
use Rattle.spv_ops.specs.inner.Declares.{DeclaresVariable}
use Rattle.spv_ops.specs.inner.Wide.{AreSame}
use Rattle.spv_ops.proofs.Chaining.{chain_back, element_back}

-- the values from number k on
pub at_front : (xs : List ℕ) (k t : ℕ) (us : List ℕ) → drop k xs ≡ t ∷ us
    → (slice_get xs k ≡ Some t) × (drop (k + 1) xs ≡ us)
at_front [] zero t us e = absurd (let none : [] ≡ t ∷ us = e in cc)
at_front [] (suc k) t us e = absurd (let none : [] ≡ t ∷ us = e in cc)
at_front (x ∷ xs) zero t us e =
    let all : x ∷ xs ≡ t ∷ us = e in
    let same : x ≡ t = cc in
    let others : xs ≡ us = cc in
    (ap Some same, others)
at_front (x ∷ xs) (suc k) t us e =
    let next : suc k + 1 ≡ suc (k + 1) = omega arith in
    let two = at_front xs k t us e in
    (two.0, rw next two.1)

-- the lines
abbrev pub last_of : Bool → List Asked
last_of e = asked.Kind kind.Pointer seat.Result ∷ asked.Relation relation.SameClass seat.Result (seat.Value 0)
    ∷ asked.Rest (beside.Leads e) ∷ []

abbrev pub last_asks : Bool → List Asks
last_asks e = asks.Once (asked.Kind kind.Pointer seat.Result)
    ∷ asks.Once (asked.Relation relation.SameClass seat.Result (seat.Value 0)) ∷ asks.Once (asked.Rest (beside.Leads e))
    ∷ []

abbrev pub chain_line : List Asks
chain_line = asks.Once (asked.Kind kind.Pointer (seat.Value 0)) ∷ asks.Indexes false ∷ last_asks false

abbrev pub element_line : List Asks
element_line = asks.Once (asked.Kind kind.Pointer (seat.Value 0)) ∷ asks.Once (asked.Kind kind.Int (seat.Value 1))
    ∷ asks.Indexes true ∷ last_asks true

abbrev pub phi_line : List Asks
phi_line = asks.Each each.Same ∷ asks.Once (asked.Kind kind.Data seat.Result) ∷ []

abbrev pub variable_line : List Asks
variable_line = asks.Once (asked.Kind kind.Pointer seat.Result) ∷ asks.Once (asked.Rest beside.StorageClass)
    ∷ asks.Once (asked.Rest beside.ClassHere)
    ∷ asks.Once (asked.Rest beside.Initializer) ∷ asks.Once (asked.Rest beside.InitializerType) ∷ []

abbrev pub construct_line : List Asks
construct_line = asks.Once (asked.Kind kind.Composite seat.Result) ∷ asks.Once (asked.Rest beside.Several)
    ∷ asks.Each each.Share
    ∷ asks.Once (asked.Rest beside.Filled) ∷ asks.Once (asked.Rest beside.Count) ∷ asks.Each each.Part ∷ []

-- conditions before others

pub joined : (P : Asked → Type 0) (xs ys : List Asked) → AllByRecursion P xs → AllByRecursion P ys
    → AllByRecursion P (xs ++ ys)
joined P [] ys h k = k
joined P (x ∷ xs) ys h k = (h.0, joined P xs ys h.1 k)

pub former : (P : Asked → Type 0) (xs ys : List Asked) → AllByRecursion P (xs ++ ys) → AllByRecursion P xs
former P [] ys h = tt
former P (x ∷ xs) ys h = (h.0, former P xs ys h.1)

pub latter : (P : Asked → Type 0) (xs ys : List Asked) → AllByRecursion P (xs ++ ys) → AllByRecursion P ys
latter P [] ys h = h
latter P (x ∷ xs) ys h = latter P xs ys h.1

-- indexes

index_there : (is : List PlainInst) (R : Rest → Type 0) (r : Option ℕ) (e : Bool) (all us : List ℕ) (k : ℕ)
    → drop k all ≡ us → AllByRecursion (IsSomeInt is) us → ((j : ℕ) → R (beside.Chosen e j))
    → AllByRecursion (Holds is R r all) (indexes_from e k (length us))
index_there is R r e all [] k d h c = tt
index_there is R r e all (t ∷ us) k d h c =
    let two = at_front all k t us d in
    (rw two.0 h.0, (c (k - first_index e), index_there is R r e all us (k + 1) two.1 h.1 c))

index_back : (is : List PlainInst) (R : Rest → Type 0) (r : Option ℕ) (e : Bool) (all us : List ℕ) (k : ℕ)
    → drop k all ≡ us → AllByRecursion (Holds is R r all) (indexes_from e k (length us))
    → AllByRecursion (IsSomeInt is) us
index_back is R r e all [] k d h = tt
index_back is R r e all (t ∷ us) k d h =
    let two = at_front all k t us d in
    (rw two.0 at h.0, index_back is R r e all us (k + 1) two.1 h.1.1)

-- Access chains.

pub chains_hold : (is : List PlainInst) (R : Rest → Type 0) (r : ℕ) (ts xs : List ℕ)
    → ((j : ℕ) → R (beside.Chosen false j)) → R (beside.Leads false) → Chains is r ts xs
    → AllByRecursion (Holds is R (Some r) ts) (conditions_in chain_line (length ts))
chains_hold is R r (o ∷ ts) (x ∷ xs) c l (each, lead) =
    let P = Holds is R (Some r) (o ∷ ts) in
    let left : length ts ≡ suc (length ts) - 1 = omega arith in
    let indexes = subst (λ m. AllByRecursion P (indexes_from false 1 m)) left
    (index_there is R (Some r) false (o ∷ ts) ts 1 refl each c) in (
      (lead.from, ap pointee_in lead.base),
      joined P (indexes_from false 1 (suc (length ts) - 1)) (last_of false) indexes
          ((lead.to, ap pointee_in lead.result), ((lead.class, lead.to, lead.from, lead.result, lead.base), (l, tt))),
    )
chains_hold is R r ts xs c l never = absurd never

pub elements_hold : (is : List PlainInst) (R : Rest → Type 0) (r : ℕ) (ts xs : List ℕ)
    → ((j : ℕ) → R (beside.Chosen true j)) → R (beside.Leads true) → ChainsByElement is r ts xs
    → AllByRecursion (Holds is R (Some r) ts) (conditions_in element_line (length ts))
elements_hold is R r (o ∷ p ∷ ts) (x ∷ y ∷ xs) c l (i, each, lead) =
    let P = Holds is R (Some r) (o ∷ p ∷ ts) in
    let left : length ts ≡ suc (suc (length ts)) - 2 = omega arith in
    let indexes = subst (λ m. AllByRecursion P (indexes_from true 2 m)) left
    (index_there is R (Some r) true (o ∷ p ∷ ts) ts 2 refl each c) in (
      (lead.from, ap pointee_in lead.base),
      (
        i,
        joined P (indexes_from true 2 (suc (suc (length ts)) - 2)) (last_of true) indexes
            ((lead.to, ap pointee_in lead.result), ((lead.class, lead.to, lead.from, lead.result, lead.base), (l, tt))),
      ),
    )
elements_hold is R r ts xs c l never = absurd never

pub hold_chains : (is : List PlainInst) (R : Rest → Type 0) (r : ℕ) (ts xs : List ℕ)
    → (R (beside.Leads false) → IsSomeAnd (led_to is false xs ts) (PointsTo is r))
    → AllByRecursion (Holds is R (Some r) ts) (conditions_in chain_line (length ts)) → Chains is r ts xs
hold_chains is R r [] xs l h = absurd h.0
hold_chains is R r (o ∷ ts) xs l h =
    let P = Holds is R (Some r) (o ∷ ts) in
    let qs = indexes_from false 1 (suc (length ts) - 1) in
    let left : suc (length ts) - 1 ≡ length ts = omega arith in
    let indexes = subst (λ m. AllByRecursion P (indexes_from false 1 m)) left (former P qs (last_of false) h.1) in
    let last = latter P qs (last_of false) h.1 in
    chain_back is r o ts xs (index_back is R (Some r) false (o ∷ ts) ts 1 refl indexes) last.1.0 (l last.1.1.0)

pub hold_elements : (is : List PlainInst) (R : Rest → Type 0) (r : ℕ) (ts xs : List ℕ)
    → (R (beside.Leads true) → IsSomeAnd (led_to is true xs ts) (PointsTo is r))
    → AllByRecursion (Holds is R (Some r) ts) (conditions_in element_line (length ts)) → ChainsByElement is r ts xs
hold_elements is R r [] xs l h = absurd h.0
hold_elements is R r (o ∷ []) xs l h = absurd h.1.0
hold_elements is R r (o ∷ p ∷ ts) xs l h =
    let P = Holds is R (Some r) (o ∷ p ∷ ts) in
    let qs = indexes_from true 2 (suc (suc (length ts)) - 2) in
    let left : suc (suc (length ts)) - 2 ≡ length ts = omega arith in
    let indexes = subst (λ m. AllByRecursion P (indexes_from true 2 m)) left (former P qs (last_of true) h.1.1) in
    let last = latter P qs (last_of true) h.1.1 in
    element_back is r o p ts xs h.1.0 (index_back is R (Some r) true (o ∷ p ∷ ts) ts 2 refl indexes) last.1.0
    (l last.1.1.0)

-- a chain has a result type
pub no_chain : (is : List PlainInst) (R : Rest → Type 0) (ts : List ℕ)
    → AllByRecursion (Holds is R None ts) (conditions_in chain_line (length ts)) → ⊥
no_chain is R ts h = (latter (Holds is R None ts) (indexes_from false 1 (length ts - 1)) (last_of false) h.1).0

pub no_elements : (is : List PlainInst) (R : Rest → Type 0) (ts : List ℕ)
    → AllByRecursion (Holds is R None ts) (conditions_in element_line (length ts)) → ⊥
no_elements is R ts h = (latter (Holds is R None ts) (indexes_from true 2 (length ts - 2)) (last_of true) h.1.1).0

-- Variables.

pointer_of : (o : Option Form) (c : ℕ) → class_in o ≡ Some c → (p : ℕ) × (pointee_in o ≡ Some p)
pointer_of (Some (form.Pointer class p)) c e = (p, refl)
pointer_of _ c e = cc

-- what the conditions of a variable say of what follows its result
abbrev pub FitsVariable : List PlainInst → ℕ → ℕ → List Plain → List ℕ → Type 0
FitsVariable is n r os ts = HasClass is (Some r) os × IsSomeAnd (class_of os) (MayHave is n)
    × AllByRecursion (MayInitialize is) (initializers_in os) × AllByRecursion (PointsTo is r) ts

pub variable_pointer : (is : List PlainInst) (n r : ℕ) (os : List Plain) (ts : List ℕ) → DeclaresVariable is n r os ts
    → (p : ℕ) × PointsTo is r p
variable_pointer is n r (operand.Value k class ∷ os) ts (c, d, i, p) = pointer_of (form_of is r) class c
variable_pointer is n r os ts never = absurd never

pub variable_fits : (is : List PlainInst) (n r : ℕ) (os : List Plain) (ts : List ℕ) → DeclaresVariable is n r os ts
    → FitsVariable is n r os ts
variable_fits is n r (operand.Value k class ∷ os) ts (c, d, i, p) = (c, d, i, p)
variable_fits is n r os ts never = absurd never

pub fits_variable : (is : List PlainInst) (n r : ℕ) (os : List Plain) (ts : List ℕ) → FitsVariable is n r os ts
    → DeclaresVariable is n r os ts
fits_variable is n r (operand.Value k class ∷ os) ts (c, d, i, p) = (c, d, i, p)
fits_variable is n r os ts (c, d, i, p) = absurd c

-- The values of an OpPhi.

same_there : (is : List PlainInst) (R : Rest → Type 0) (r : ℕ) (all ts : List ℕ) (k : ℕ) → drop k all ≡ ts
    → AllByRecursion (λ t. t ≡ r) ts → AllByRecursion (Holds is R (Some r) all) (each_from each.Same k (length ts))
same_there is R r all [] k e h = tt
same_there is R r all (t ∷ ts) k e h =
    let two = at_front all k t ts e in
    (rw two.0 h.0, same_there is R r all ts (k + 1) two.1 h.1)

same_back : (is : List PlainInst) (R : Rest → Type 0) (r : ℕ) (all ts : List ℕ) (k : ℕ) → drop k all ≡ ts
    → AllByRecursion (Holds is R (Some r) all) (each_from each.Same k (length ts)) → AllByRecursion (λ t. t ≡ r) ts
same_back is R r all [] k e h = tt
same_back is R r all (t ∷ ts) k e h =
    let two = at_front all k t ts e in
    (rw two.0 at h.0, same_back is R r all ts (k + 1) two.1 h.1)

pub same_hold : (is : List PlainInst) (R : Rest → Type 0) (r : ℕ) (ts : List ℕ) → AreSame is r ts
    → AllByRecursion (Holds is R (Some r) ts) (conditions_in phi_line (length ts))
same_hold is R r ts h =
    joined (Holds is R (Some r) ts) (each_from each.Same 0 (length ts)) (asked.Kind kind.Data seat.Result ∷ [])
    (same_there is R r ts ts 0 refl h.1) (h.0, tt)

pub hold_same : (is : List PlainInst) (R : Rest → Type 0) (r : ℕ) (ts : List ℕ)
    → AllByRecursion (Holds is R (Some r) ts) (conditions_in phi_line (length ts)) → AreSame is r ts
hold_same is R r ts h =
    let P = Holds is R (Some r) ts in
    let last = latter P (each_from each.Same 0 (length ts)) (asked.Kind kind.Data seat.Result ∷ []) h in (
      last.0,
      same_back is R r ts ts 0 refl
          (former P (each_from each.Same 0 (length ts)) (asked.Kind kind.Data seat.Result ∷ []) h),
    )

pub no_same : (is : List PlainInst) (R : Rest → Type 0) (ts : List ℕ)
    → AllByRecursion (Holds is R None ts) (conditions_in phi_line (length ts)) → ⊥
no_same is R ts h = (latter (Holds is R None ts) (each_from each.Same 0 (length ts))
    (asked.Kind kind.Data seat.Result ∷ []) h).0

-- no ids are no chain

pub none_chains : (is : List PlainInst) (r : ℕ) (xs : List ℕ) (o : Option (List ℕ)) → xs ≡ []
    → IsSomeAnd o (λ types. Chains is r types xs) → ⊥
none_chains is r [] None e h = h
none_chains is r [] (Some []) e h = h
none_chains is r [] (Some (t ∷ ts)) e h = h
none_chains is r (x ∷ xs) o e h = cc

pub none_elements : (is : List PlainInst) (r : ℕ) (xs : List ℕ) (o : Option (List ℕ)) → xs ≡ []
    → IsSomeAnd o (λ types. ChainsByElement is r types xs) → ⊥
none_elements is r [] None e h = h
none_elements is r [] (Some []) e h = h
none_elements is r [] (Some (t ∷ [])) e h = h
none_elements is r [] (Some (t ∷ u ∷ ts)) e h = h
none_elements is r (x ∷ xs) o e h = cc

-- what holds beside of some list holds with it

pub with_three : {A B C : Type 0} → (P : List ℕ → Type 0) (o : Option (List ℕ)) → A × B × C
    → (IsSomeAnd o P → IsSomeAnd o (λ ts. A × B × C × P ts)) × (IsSomeAnd o (λ ts. A × B × C × P ts) → IsSomeAnd o P)
with_three P None h = (λ k. k, λ k. k)
with_three P (Some ts) h = (λ k. (h.0, h.1, h.2, k), λ k. k.3)

pub not_three : {A B C : Type 0} → (P : List ℕ → Type 0) (o : Option (List ℕ))
    → IsSomeAnd o (λ ts. A × B × C × P ts) → A × B × C
not_three P None h = absurd h
not_three P (Some ts) h = (h.0, h.1, h.2)
