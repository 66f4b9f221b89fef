-- *Typed* by its parts, and the lines that the code decides in its own ways.
use Rattle.std.proofs.Common.{◌≡◌, ◌∙◌, ◌↔◌, ◌≤◌, ◌<◌, ◌+◌, ◌⊎◌, inl, inr, ℕ, List, [], ◌∷◌, Option, Some, None, true}
use Rattle.std.proofs.Common.{false, Bool, not, ◌&&◌, if◌then◌else◌, refl, length, arith}
use Rattle.std.specs.Prelude.{IsSomeAnd}
use Rattle.std.specs.List.{AllByRecursion}
use Rattle.std.proofs.lemmas.Bool.{leb-true}
use Rattle.spv_module.specs.Operand.{Plain, PlainInst}
use Rattle.spv_module.specs.declared.opcode.TheConstants as opcode
use Rattle.spv_type_forms.specs.declared.form.Sort.{Sort}
use Rattle.spv_type_forms.specs.declared.form.Sort.TheVariants as sort
use Rattle.spv_type_forms.specs.Form.{form_of}
use Rattle.spv_type_kinds.specs.Operands.{ids_in, after_head, result_type_in}
use Rattle.spv_type_forms.specs.Values.{types_of, paired_ids_in}
use Rattle.spv_conditions.specs.declared.asked.Rest.{Rest}
use Rattle.spv_conditions.specs.declared.asked.Rest.TheVariants as beside
use Rattle.spv_conditions.specs.declared.asked.Asked.TheVariants as asked
use Rattle.spv_conditions.specs.declared.asked.Asks.{Asks}
use Rattle.spv_conditions.specs.declared.asked.Asks.TheVariants as asks
use Rattle.spv_type_kinds.specs.declared.kinds.Kind.{Kind}
use Rattle.spv_type_kinds.specs.declared.kinds.Kind.TheVariants as kind
use Rattle.spv_type_kinds.specs.declared.kinds.Relation.TheVariants as relation
use Rattle.spv_conditions.specs.declared.seat.Seat.TheVariants as seat
use Rattle.spv_conditions.specs.Variable.{initializers_in}
use Rattle.spv_conditions.specs.Condition.{Holds}
use Rattle.spv_conditions.specs.Group.{enumerant_in}
use Rattle.spv_conditions.specs.declared.asked.Texels.{Texels}
use Rattle.spv_conditions.specs.declared.asked.Texels.TheVariants as texels
use Rattle.spv_conditions.specs.Texels.{mask_in, has_bit, count_if, is_known, fits_use, values_end, IsMasked}
use Rattle.spv_type_forms.proofs.Opcodes.{both}
use Rattle.spv_conditions.specs.Rest.{RestHolds}
use Rattle.spv_conditions.specs.Asks.{HoldsOf, conditions_in}
use Rattle.spv_ops.specs.declared.table.Places.{Places}
use Rattle.spv_ops.specs.declared.table.Places.TheVariants as places
use Rattle.spv_ops.specs.Table.{lines, places_of, asks_of}
use Rattle.spv_ops.specs.Values.{others_from}
use Rattle.spv_ops.specs.inner.Table.{first_of}
use Rattle.spv_ops.specs.inner.Typed.{IsTypedIn, IsTypedBy}
use Rattle.spv_ops.specs.inner.Common.{Combines, Loads, Stores, IsCondition}
use Rattle.spv_ops.specs.inner.Chain.{Chains, ChainsByElement}
use Rattle.spv_ops.specs.inner.Composite.{Constructs}
use Rattle.spv_ops.specs.inner.Declares.{DeclaresVariable}
use Rattle.spv_ops.specs.inner.Wide.{AreSame, IsWide, IsWidePlace, binary_of, is_counted}
use Rattle.spv_ops.proofs.Rows.{asks_first, places_first, many_first, pairs_first, initializers_first}
use Rattle.spv_ops.proofs.Rows.{enqueued_first}
use Rattle.spv_ops.proofs.Enqueued.{enqueue_line, enqueue_holds, holds_enqueue}
use Rattle.spv_ops.proofs.Chaining.{chain_chosen, chain_leads, element_chosen, element_leads}
use Rattle.spv_ops.proofs.Pointing.{chain_line, element_line, phi_line, variable_line, construct_line, chains_hold}
use Rattle.spv_ops.proofs.Pointing.{elements_hold, hold_chains, hold_elements, no_chain, no_elements, same_hold}
use Rattle.spv_ops.proofs.Pointing.{hold_same, no_same, variable_pointer, variable_fits, fits_variable}
use Rattle.spv_ops.proofs.Constructed.{construct_holds, holds_construct}

pub some_iff : (P Q : List ℕ → Type 0) → ((ts : List ℕ) → P ts ↔ Q ts) → (o : Option (List ℕ))
    → IsSomeAnd o P ↔ IsSomeAnd o Q
some_iff P Q f None = (λ h. h, λ h. h)
some_iff P Q f (Some ts) = f ts

pub none_of : (P : List ℕ → Type 0) → ((ts : List ℕ) → ¬ (P ts)) → (o : Option (List ℕ)) → ¬ (IsSomeAnd o P)
none_of P f None = λ h. h
none_of P f (Some ts) = f ts

pub iff_to : {A B C : Type 0} → A ↔ B → B ↔ C → A ↔ C
iff_to f g = (λ a. g.0 (f.0 a), λ c. f.1 (g.1 c))

-- what is asked, where these are the places, the line and the result type
pub typed_by : (is : List PlainInst) (n : ℕ) (i : PlainInst) (p : Places) (line : List Asks) (r : Option ℕ)
    (os : List Plain) → places_of i.opcode ≡ p → asks_of i.opcode ≡ line
    → result_type_in i.operands ≡ r → after_head i.operands ≡ os → IsTypedBy is n i p line r os ↔ IsTypedIn is n i
typed_by is n i p line r os e f g h = rw (e, f, g, h) (λ k. k, λ k. k)

-- A line that says how many values there are holds of no other number of them.

clusters_few : (o : Option ℕ) (n : ℕ)
    → IsSomeAnd o (λ (g : ℕ). ((g ≤ 2) × (n ≡ 2)) ⊎ ((g ≡ 3) × (n ≡ 3))) → n ≤ 3
clusters_few None n h = absurd h
clusters_few (Some g) n (inl h) = let e : n ≡ 2 = h.1 in omega (arith, e)
clusters_few (Some g) n (inr h) = let e : n ≡ 3 = h.1 in omega (arith, e)

few_sampled : (a b c d : Bool) → ((if a then not b else b) && not d) ≡ true
    → (((2 + count_if a 1) + count_if b 2) + count_if c 1) + count_if d 1 ≤ 6
few_sampled true true c d h = cc
few_sampled true false c true h = cc
few_sampled true false true false h = omega arith
few_sampled true false false false h = omega arith
few_sampled false false c d h = cc
few_sampled false true c true h = cc
few_sampled false true true false h = omega arith
few_sampled false true false false h = omega arith

few_read : (n : ℕ) (a b c d : Bool) → n ≤ 3 → not b ≡ true
    → (((n + count_if a 1) + count_if b 2) + count_if c 1) + count_if d 1 ≤ 6
few_read n a true c d l h = cc
few_read n true false true true l h = omega (arith, l)
few_read n true false true false l h = omega (arith, l)
few_read n true false false true l h = omega (arith, l)
few_read n true false false false l h = omega (arith, l)
few_read n false false true true l h = omega (arith, l)
few_read n false false true false l h = omega (arith, l)
few_read n false false false true l h = omega (arith, l)
few_read n false false false false l h = omega (arith, l)

few_by : (k : Texels) (m : ℕ) → fits_use k m ≡ true → values_end k m ≤ 6
few_by texels.Sampled m h = few_sampled (has_bit m 2) (has_bit m 4) (has_bit m 8) (has_bit m 64) h
few_by texels.Read m h = few_read 2 (has_bit m 2) (has_bit m 4) (has_bit m 8) (has_bit m 64) (omega arith) h
few_by texels.Written m h = few_read 3 (has_bit m 2) (has_bit m 4) (has_bit m 8) (has_bit m 64) (omega arith) h

masked_few : (k : Texels) (ts : List ℕ) (m : ℕ) → IsMasked k ts m → length ts ≤ 6
masked_few k ts m h =
    let fits = both (fits_use k m) (not (has_bit m 4096 && has_bit m 8192))
    (both (is_known m) (fits_use k m && not (has_bit m 4096 && has_bit m 8192)) h.0).1 in
    let few : values_end k m ≤ 6 = few_by k m fits.0 in
    let all : length ts ≡ values_end k m = h.1 in
    omega (arith, few, all)

pub too_long : (is : List PlainInst) (n : ℕ) (i : PlainInst) (r : Option ℕ) (line : List Asks) (o : Option (List ℕ))
    → is_counted line ≡ true → ((ts : List ℕ) → o ≡ Some ts → 6 < length ts)
    → ¬ (IsSomeAnd o (λ ts. AllByRecursion (HoldsOf is n i r ts) (conditions_in line (length ts))))
too_long is n i r line None c l = λ h. h
too_long is n i r (asks.Once (asked.Operands b k) ∷ line) (Some ts) c l = λ h. let more = l ts refl in
    let few : k ≤ 6 = leb-true k 6 c in let same : length ts ≡ k = h.0.1 in absurd (omega (arith, more, few, same))
too_long is n i r (asks.Once (asked.Rest beside.Cluster) ∷ line) (Some ts) c l = λ h. let more = l ts refl in
    let few : length ts ≤ 3 = clusters_few (enumerant_in i.operands) (length ts) h.0 in
    absurd (omega (arith, more, few))
too_long is n i r (asks.Once (asked.Rest (beside.ImageMask k)) ∷ line) (Some ts) c l = λ h. let more = l ts refl in
    let few : length ts ≤ 6 = masked_few k ts (mask_in i.operands) h.0 in absurd (omega (arith, more, few))
too_long is n i r line (Some ts) c l = absurd (let no : is_counted line ≡ true = c in cc)

-- The lines that most instructions have.

abbrev sort_kind : Sort → Kind
sort_kind sort.Int = kind.Ints
sort_kind sort.Float = kind.Floats
sort_kind sort.Bool = kind.Bools

abbrev same_as : ℕ → Asks
same_as k = asks.Once (asked.Relation relation.Same (seat.Value k) seat.Result)

abbrev pub binary_line : Sort → List Asks
binary_line s = asks.Once (asked.Operands true 2) ∷ asks.Once (asked.Kind (sort_kind s) seat.Result) ∷ same_as 0
    ∷ same_as 1 ∷ []

abbrev pub load_line : List Asks
load_line = asks.Once (asked.Operands true 1) ∷ asks.Once (asked.Relation relation.PointsTo (seat.Value 0) seat.Result)
    ∷ asks.Once (asked.Kind kind.Data seat.Result) ∷ []

abbrev pub store_line : List Asks
store_line = asks.Once (asked.Operands false 2)
    ∷ asks.Once (asked.Relation relation.PointsTo (seat.Value 0) (seat.Value 1)) ∷ []

abbrev pub branch_line : List Asks
branch_line = asks.Once (asked.Operands false 1) ∷ asks.Once (asked.Kind kind.Bool (seat.Value 0))
    ∷ asks.Once (asked.Rest beside.Weights) ∷ []

abbrev pub extended_line : List Asks
extended_line = asks.Once (asked.Rest beside.Extended) ∷ []

abbrev pub undef_line : List Asks
undef_line = asks.Once (asked.Kind kind.Data seat.Result) ∷ []

pub undef_asks : (n : ℕ) → first_of n ≡ opcode.UNDEF → (places_of n ≡ places.Nothing) × (asks_of n ≡ undef_line)
unfolding lines
undef_asks n e = (places_first n opcode.UNDEF e, asks_first n opcode.UNDEF e)

pub binary_asks : (n : ℕ) (s : Sort) → first_of n ≡ binary_of s
    → (places_of n ≡ places.Ids) × (asks_of n ≡ binary_line s)
unfolding lines
binary_asks n sort.Int e = (places_first n opcode.I_ADD e, asks_first n opcode.I_ADD e)
binary_asks n sort.Float e = (places_first n opcode.F_ADD e, asks_first n opcode.F_ADD e)
binary_asks n sort.Bool e = (places_first n opcode.LOGICAL_EQUAL e, asks_first n opcode.LOGICAL_EQUAL e)

pub load_asks : (n : ℕ) → first_of n ≡ opcode.LOAD → (places_of n ≡ places.Ids) × (asks_of n ≡ load_line)
unfolding lines
load_asks n e = (places_first n opcode.LOAD e, asks_first n opcode.LOAD e)

pub store_asks : (n : ℕ) → first_of n ≡ opcode.STORE → (places_of n ≡ places.Ids) × (asks_of n ≡ store_line)
unfolding lines
store_asks n e = (places_first n opcode.STORE e, asks_first n opcode.STORE e)

pub branch_asks : (n : ℕ) → first_of n ≡ opcode.BRANCH_CONDITIONAL
    → (places_of n ≡ places.One) × (asks_of n ≡ branch_line)
unfolding lines
branch_asks n e = (places_first n opcode.BRANCH_CONDITIONAL e, asks_first n opcode.BRANCH_CONDITIONAL e)

pub extended_asks : (n : ℕ) → first_of n ≡ opcode.EXT_INST
    → (places_of n ≡ places.Nothing) × (asks_of n ≡ extended_line)
unfolding lines
extended_asks n e = (places_first n opcode.EXT_INST e, asks_first n opcode.EXT_INST e)

combines : (is : List PlainInst) (R : Rest → Type 0) (s : Sort) (r : ℕ) (ts : List ℕ)
    → Combines is s r ts ↔ AllByRecursion (Holds is R (Some r) ts) (conditions_in (binary_line s) (length ts))
combines is R s r [] = (λ h. absurd h, λ h. h.1.1.0)
combines is R s r (o ∷ []) = (λ h. absurd h, λ h. h.1.1.1.0)
combines is R sort.Int r (o ∷ p ∷ []) = (λ h. ((tt, refl), (h.2, (h.0, (h.1, tt)))), λ h. (h.1.1.0, h.1.1.1.0, h.1.0))
combines is R sort.Float r (o ∷ p ∷ []) = (λ h. ((tt, refl), (h.2, (h.0, (h.1, tt)))), λ h. (h.1.1.0, h.1.1.1.0, h.1.0))
combines is R sort.Bool r (o ∷ p ∷ []) = (λ h. ((tt, refl), (h.2, (h.0, (h.1, tt)))), λ h. (h.1.1.0, h.1.1.1.0, h.1.0))
combines is R s r (o ∷ p ∷ q ∷ ts) = (λ h. absurd h, λ h. absurd (let e = h.0.1 in omega (arith, e)))

loads : (is : List PlainInst) (R : Rest → Type 0) (r : ℕ) (ts : List ℕ)
    → Loads is r ts ↔ AllByRecursion (Holds is R (Some r) ts) (conditions_in load_line (length ts))
loads is R r [] = (λ h. absurd h, λ h. h.1.0)
loads is R r (o ∷ []) = (λ h. ((tt, refl), (h.0, (h.1, tt))), λ h. (h.1.0, h.1.1.0))
loads is R r (o ∷ p ∷ ts) = (λ h. absurd h, λ h. absurd (let e = h.0.1 in omega (arith, e)))

stores : (is : List PlainInst) (R : Rest → Type 0) (ts : List ℕ)
    → Stores is ts ↔ AllByRecursion (Holds is R None ts) (conditions_in store_line (length ts))
stores is R [] = (λ h. absurd h, λ h. h.1.0)
stores is R (o ∷ []) = (λ h. absurd h, λ h. h.1.0)
stores is R (o ∷ p ∷ []) = (λ h. ((tt, refl), (h, tt)), λ h. h.1.0)
stores is R (o ∷ p ∷ q ∷ ts) = (λ h. absurd h, λ h. absurd (let e = h.0.1 in omega (arith, e)))

branches : (is : List PlainInst) (R : Rest → Type 0) (ts : List ℕ) → R beside.Weights
    → IsCondition is ts ↔ AllByRecursion (Holds is R None ts) (conditions_in branch_line (length ts))
branches is R [] w = (λ h. absurd h, λ h. h.1.0)
branches is R (o ∷ []) w = (λ h. ((tt, refl), (h, (w, tt))), λ h. h.1.0)
branches is R (o ∷ p ∷ ts) w = (λ h. absurd h, λ h. absurd (let e = h.0.1 in omega (arith, e)))

pub combines_in : (is : List PlainInst) (n : ℕ) (i : PlainInst) (s : Sort) (r : ℕ) (o : Option (List ℕ))
    → IsSomeAnd o (Combines is s r) ↔ IsSomeAnd o
    (λ ts. AllByRecursion (HoldsOf is n i (Some r) ts) (conditions_in (binary_line s) (length ts)))
combines_in is n i s r o =
    some_iff (Combines is s r) (λ ts. AllByRecursion (HoldsOf is n i (Some r) ts)
    (conditions_in (binary_line s) (length ts))) (λ ts. combines is (RestHolds is n i (Some r) ts) s r ts) o

pub loads_in : (is : List PlainInst) (n : ℕ) (i : PlainInst) (r : ℕ) (o : Option (List ℕ))
    → IsSomeAnd o (Loads is r) ↔ IsSomeAnd o
    (λ ts. AllByRecursion (HoldsOf is n i (Some r) ts) (conditions_in load_line (length ts)))
loads_in is n i r o =
    some_iff (Loads is r) (λ ts. AllByRecursion (HoldsOf is n i (Some r) ts) (conditions_in load_line (length ts)))
    (λ ts. loads is (RestHolds is n i (Some r) ts) r ts) o

pub stores_in : (is : List PlainInst) (n : ℕ) (i : PlainInst) (o : Option (List ℕ))
    → IsSomeAnd o (Stores is) ↔ IsSomeAnd o
    (λ ts. AllByRecursion (HoldsOf is n i None ts) (conditions_in store_line (length ts)))
stores_in is n i o = some_iff (Stores is) (λ ts. AllByRecursion (HoldsOf is n i None ts)
    (conditions_in store_line (length ts))) (λ ts. stores is (RestHolds is n i None ts) ts) o

pub branches_in : (is : List PlainInst) (n : ℕ) (i : PlainInst) (o : Option (List ℕ))
    → ((ts : List ℕ) → RestHolds is n i None ts beside.Weights)
    → IsSomeAnd o (IsCondition is) ↔ IsSomeAnd o
    (λ ts. AllByRecursion (HoldsOf is n i None ts) (conditions_in branch_line (length ts)))
branches_in is n i o w =
    some_iff (IsCondition is) (λ ts. AllByRecursion (HoldsOf is n i None ts) (conditions_in branch_line (length ts)))
    (λ ts. branches is (RestHolds is n i None ts) ts (w ts)) o

-- The lines that take any number of values.

pub phi_told : (is : List PlainInst) (n : ℕ) (i : PlainInst) (r : ℕ) (ts : List ℕ)
    → AreSame is r ts ↔ AllByRecursion (HoldsOf is n i (Some r) ts) (conditions_in phi_line (length ts))
phi_told is n i r ts =
    (same_hold is (RestHolds is n i (Some r) ts) r ts, hold_same is (RestHolds is n i (Some r) ts) r ts)

pub variable_told : (is : List PlainInst) (n : ℕ) (i : PlainInst) (r : ℕ) (ts : List ℕ)
    → DeclaresVariable is n r (after_head i.operands) ts
    ↔ AllByRecursion (HoldsOf is n i (Some r) ts) (conditions_in variable_line (length ts))
variable_told is n i r ts = (
  λ h. let f = variable_fits is n r (after_head i.operands) ts h in
      (variable_pointer is n r (after_head i.operands) ts h, (f.0, (f.1, (f.2, (f.3, tt))))),
  λ h. fits_variable is n r (after_head i.operands) ts (h.1.0, h.1.1.0, h.1.1.1.0, h.1.1.1.1.0),
)

pub chain_told : (is : List PlainInst) (n : ℕ) (i : PlainInst) (r : ℕ) (ts : List ℕ)
    → Chains is r ts (ids_in (after_head i.operands))
    ↔ AllByRecursion (HoldsOf is n i (Some r) ts) (conditions_in chain_line (length ts))
chain_told is n i r ts =
    let xs = ids_in (after_head i.operands) in
    let R = RestHolds is n i (Some r) ts in (
      λ h. chains_hold is R r ts xs (λ j. chain_chosen is r ts xs (j + 1) h) (chain_leads is r ts xs h) h,
      λ h. hold_chains is R r ts xs (λ l. l) h,
    )

pub element_told : (is : List PlainInst) (n : ℕ) (i : PlainInst) (r : ℕ) (ts : List ℕ)
    → ChainsByElement is r ts (ids_in (after_head i.operands))
    ↔ AllByRecursion (HoldsOf is n i (Some r) ts) (conditions_in element_line (length ts))
element_told is n i r ts =
    let xs = ids_in (after_head i.operands) in
    let R = RestHolds is n i (Some r) ts in (
      λ h. elements_hold is R r ts xs (λ j. element_chosen is r ts xs (j + 1) h) (element_leads is r ts xs h) h,
      λ h. hold_elements is R r ts xs (λ l. l) h,
    )

pub construct_told : (is : List PlainInst) (n : ℕ) (i : PlainInst) (r : ℕ) (ts : List ℕ)
    → Constructs is r ts (form_of is r) ↔ AllByRecursion (HoldsOf is n i (Some r) ts)
    (conditions_in construct_line (length ts))
construct_told is n i r ts = (construct_holds is n i r ts, holds_construct is n i r ts)

-- the line of the first opcode
phi_first : asks_of opcode.PHI ≡ phi_line
unfolding lines
phi_first = refl

variable_first : asks_of opcode.VARIABLE ≡ variable_line
unfolding lines
variable_first = refl

chain_first : asks_of opcode.ACCESS_CHAIN ≡ chain_line
unfolding lines
chain_first = refl

element_first : asks_of opcode.PTR_ACCESS_CHAIN ≡ element_line
unfolding lines
element_first = refl

construct_first : asks_of opcode.COMPOSITE_CONSTRUCT ≡ construct_line
unfolding lines
construct_first = refl

enqueue_first : asks_of opcode.ENQUEUE_KERNEL ≡ enqueue_line
unfolding lines
enqueue_first = refl

pub wide_place : (p : Places)
    → (p ≡ places.Many) ⊎ (p ≡ places.Pairs) ⊎ (p ≡ places.Initializers) ⊎ (p ≡ places.Enqueued) → IsWidePlace p
wide_place p (inl e) = rw e tt
wide_place p (inr (inl e)) = rw e tt
wide_place p (inr (inr (inl e))) = rw e tt
wide_place p (inr (inr (inr e))) = rw e tt

abbrev Told : List PlainInst → ℕ → PlainInst → ℕ → ℕ → Places → List Asks → Type 0
Told is n i first r p line =
    IsWide first is n r (after_head i.operands) ↔ IsTypedBy is n i p line (Some r) (after_head i.operands)

by_line : (is : List PlainInst) (n : ℕ) (i : PlainInst) (first m r : ℕ) (p : Places) (line : List Asks) → first ≡ m
    → asks_of i.opcode ≡ line → Told is n i m r p line → Told is n i first r p (asks_of i.opcode)
by_line is n i first m r p line e f t = rw (e, f) t

pub wide_told : (is : List PlainInst) (n : ℕ) (i : PlainInst) (first r : ℕ) (p : Places) → first ≡ first_of i.opcode
    → places_of i.opcode ≡ p → IsWidePlace p → Told is n i first r p (asks_of i.opcode)
wide_told is n i first r places.Pairs e f w =
    let g = pairs_first i.opcode f in
    by_line is n i first opcode.PHI r places.Pairs phi_line (e ∙ g) (asks_first i.opcode opcode.PHI g ∙ phi_first)
    (some_iff (AreSame is r) (λ ts. AllByRecursion (HoldsOf is n i (Some r) ts) (conditions_in phi_line (length ts)))
    (phi_told is n i r) (types_of is (paired_ids_in (after_head i.operands))))
wide_told is n i first r places.Initializers e f w =
    let g = initializers_first i.opcode f in
    by_line is n i first opcode.VARIABLE r places.Initializers variable_line (e ∙ g)
    (asks_first i.opcode opcode.VARIABLE g ∙ variable_first)
    (some_iff (DeclaresVariable is n r (after_head i.operands))
    (λ ts. AllByRecursion (HoldsOf is n i (Some r) ts) (conditions_in variable_line (length ts)))
    (variable_told is n i r) (types_of is (initializers_in (after_head i.operands))))
wide_told is n i first r places.Enqueued e f w =
    let g = enqueued_first i.opcode f in
    let xs = ids_in (after_head i.operands) in
    by_line is n i first opcode.ENQUEUE_KERNEL r places.Enqueued enqueue_line (e ∙ g)
    (asks_first i.opcode opcode.ENQUEUE_KERNEL g ∙ enqueue_first)
    (enqueue_holds is n i r xs refl, holds_enqueue is n i r xs refl)
wide_told is n i first r places.Many e f w = elim (many_first i.opcode f) [
  | inl g ↦ by_line is n i first opcode.ACCESS_CHAIN r places.Many chain_line (e ∙ g)
      (asks_first i.opcode opcode.ACCESS_CHAIN g ∙ chain_first)
      (some_iff (λ ts. Chains is r ts (ids_in (after_head i.operands)))
      (λ ts. AllByRecursion (HoldsOf is n i (Some r) ts) (conditions_in chain_line (length ts)))
      (chain_told is n i r) (types_of is (ids_in (after_head i.operands))))
  | inr h ↦ elim h [
    | inl g ↦ by_line is n i first opcode.PTR_ACCESS_CHAIN r places.Many element_line (e ∙ g)
        (asks_first i.opcode opcode.PTR_ACCESS_CHAIN g ∙ element_first)
        (some_iff (λ ts. ChainsByElement is r ts (ids_in (after_head i.operands)))
        (λ ts. AllByRecursion (HoldsOf is n i (Some r) ts) (conditions_in element_line (length ts)))
        (element_told is n i r) (types_of is (ids_in (after_head i.operands))))
    | inr g ↦ by_line is n i first opcode.COMPOSITE_CONSTRUCT r places.Many construct_line (e ∙ g)
        (asks_first i.opcode opcode.COMPOSITE_CONSTRUCT g ∙ construct_first)
        (some_iff (λ ts. Constructs is r ts (form_of is r))
        (λ ts. AllByRecursion (HoldsOf is n i (Some r) ts) (conditions_in construct_line (length ts)))
        (construct_told is n i r) (types_of is (ids_in (after_head i.operands))))
  ]
]
wide_told is n i first r p e f w = absurd w

-- they have a result type

without : (is : List PlainInst) (n : ℕ) (i : PlainInst) (line : List Asks) (o : Option (List ℕ))
    → ((ts : List ℕ) → ¬ (AllByRecursion (HoldsOf is n i None ts) (conditions_in line (length ts))))
    → asks_of i.opcode ≡ line
    → ¬ (IsSomeAnd o (λ ts. AllByRecursion (HoldsOf is n i None ts) (conditions_in (asks_of i.opcode) (length ts))))
without is n i line o f e =
    rw e (none_of (λ ts. AllByRecursion (HoldsOf is n i None ts) (conditions_in line (length ts))) f o)

pub wide_result : (is : List PlainInst) (n : ℕ) (i : PlainInst) (p : Places) → places_of i.opcode ≡ p → IsWidePlace p
    → ¬ (IsTypedBy is n i p (asks_of i.opcode) None (after_head i.operands))
wide_result is n i places.Pairs f w =
    without is n i phi_line (types_of is (paired_ids_in (after_head i.operands)))
    (λ ts. no_same is (RestHolds is n i None ts) ts)
    (asks_first i.opcode opcode.PHI (pairs_first i.opcode f) ∙ phi_first)
wide_result is n i places.Initializers f w =
    without is n i variable_line (types_of is (initializers_in (after_head i.operands))) (λ ts h. h.0)
    (asks_first i.opcode opcode.VARIABLE (initializers_first i.opcode f) ∙ variable_first)
wide_result is n i places.Enqueued f w =
    without is n i enqueue_line (types_of is (others_from 6 0 (ids_in (after_head i.operands))))
    (λ ts h. h.1.1.1.1.1.1.1.1.1.1.1.1.0)
    (asks_first i.opcode opcode.ENQUEUE_KERNEL (enqueued_first i.opcode f) ∙ enqueue_first)
wide_result is n i places.Many f w = elim (many_first i.opcode f) [
  | inl g ↦ without is n i chain_line (types_of is (ids_in (after_head i.operands)))
      (λ ts. no_chain is (RestHolds is n i None ts) ts) (asks_first i.opcode opcode.ACCESS_CHAIN g ∙ chain_first)
  | inr h ↦ elim h [
    | inl g ↦ without is n i element_line (types_of is (ids_in (after_head i.operands)))
        (λ ts. no_elements is (RestHolds is n i None ts) ts)
        (asks_first i.opcode opcode.PTR_ACCESS_CHAIN g ∙ element_first)
    | inr g ↦ without is n i construct_line (types_of is (ids_in (after_head i.operands))) (λ ts k. k.0)
        (asks_first i.opcode opcode.COMPOSITE_CONSTRUCT g ∙ construct_first)
  ]
]
wide_result is n i p f w = absurd w
