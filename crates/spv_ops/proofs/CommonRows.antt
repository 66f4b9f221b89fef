-- The lines that most instructions have, of operands as they mostly stand.
use Rattle.std.proofs.Common.{◌≡◌, ◌↔◌, inl, ℕ, List, [], ◌∷◌, Some, None, Bool, refl, sym}
use Rattle.std.proofs.Common.{ap, subst}
use Rattle.std.specs.Prelude.{IsTrue, IsSomeAnd}
use Rattle.std.proofs.lemmas.Option.{none-some, same_Some}
use Rattle.spv_module.specs.Operand.{Plain, OfType, Result, Id, Mask, PlainInst}
use Rattle.spv_module.specs.declared.opcode.TheConstants as opcode
use Rattle.spv_type_forms.specs.declared.form.Sort.{Sort}
use Rattle.spv_type_kinds.specs.Operands.{words_in, after_head, result_type_in}
use Rattle.spv_type_forms.specs.Types.{IsData}
use Rattle.spv_type_forms.specs.Values.{types_of}
use Rattle.spv_conditions.specs.Further.{MayStand}
use Rattle.spv_ops.specs.declared.common.Binary.{Binary as Ids}
use Rattle.spv_ops.specs.declared.common.Two.{Two}
use Rattle.spv_ops.specs.declared.table.Places.TheVariants as places
use Rattle.spv_ops.specs.inner.Common.{Combines, Loads, Stores, IsCondition, binary_in, load_in, store_in, condition_in}
use Rattle.spv_ops.specs.inner.Table.{first_of}
use Rattle.spv_ops.specs.inner.Typed.{IsTypedIn}
use Rattle.spv_ops.specs.inner.Wide.{binary_of}
use Rattle.spv_ops.proofs.Parts.{iff_to, typed_by, binary_line, load_line, store_line, branch_line, binary_asks}
use Rattle.spv_ops.proofs.Parts.{undef_line, undef_asks, extended_line, extended_asks, load_asks, store_asks}
use Rattle.spv_ops.proofs.Parts.{branch_asks, combines_in, loads_in, stores_in, branches_in}

pub binary_typed : (is : List PlainInst) (n : ℕ) (i : PlainInst) (s : Sort) (ids : Ids) (holds : Bool) (os : List Plain)
    → i.operands ≡ os → first_of i.opcode ≡ binary_of s → binary_in os ≡ Some ids
    → (IsTrue holds ↔ IsSomeAnd (types_of is (ids.first ∷ ids.second ∷ [])) (Combines is s ids.result_type))
    → IsTrue holds ↔ IsTypedIn is n i
binary_typed is n i s ids holds (OfType r ∷ Result x ∷ Id a ∷ Id b ∷ []) e o f h =
    let same : record { result_type = r; first = a; second = b } ≡ ids = same_Some _ _ f in
    let k = subst (λ (d : Ids). IsTrue holds
    ↔ IsSomeAnd (types_of is (d.first ∷ d.second ∷ [])) (Combines is s d.result_type)) (sym same) h in
    let line = binary_asks i.opcode s o in
    let typed = typed_by is n i places.Ids (binary_line s) (Some r) (Id a ∷ Id b ∷ []) line.0 line.1
    (ap result_type_in e) (ap after_head e) in
    iff_to k (iff_to (combines_in is n i s r (types_of is (a ∷ b ∷ []))) typed)
binary_typed is n i s ids holds os e o f h = absurd (none-some ids f)

load_of : (is : List PlainInst) (n : ℕ) (i : PlainInst) (r x p : ℕ) (os : List Plain) (holds : Bool)
    → first_of i.opcode ≡ opcode.LOAD → i.operands ≡ OfType r ∷ Result x ∷ Id p ∷ []
    → (IsTrue holds ↔ IsSomeAnd (types_of is (p ∷ [])) (Loads is r)) → IsTrue holds ↔ IsTypedIn is n i
load_of is n i r x p os holds o e k =
    let line = load_asks i.opcode o in
    let typed = typed_by is n i places.Ids load_line (Some r) (Id p ∷ []) line.0 line.1 (ap result_type_in e)
    (ap after_head e) in
    iff_to k (iff_to (loads_in is n i r (types_of is (p ∷ []))) typed)

load_masked : (is : List PlainInst) (n : ℕ) (i : PlainInst) (r x p a b : ℕ) (os : List Plain) (holds : Bool)
    → first_of i.opcode ≡ opcode.LOAD → i.operands ≡ OfType r ∷ Result x ∷ Id p ∷ Mask a b ∷ os
    → (IsTrue holds ↔ IsSomeAnd (types_of is (p ∷ [])) (Loads is r)) → IsTrue holds ↔ IsTypedIn is n i
load_masked is n i r x p a b os holds o e k =
    let line = load_asks i.opcode o in
    let typed = typed_by is n i places.Ids load_line (Some r) (Id p ∷ Mask a b ∷ os) line.0 line.1 (ap result_type_in e)
    (ap after_head e) in
    iff_to k (iff_to (loads_in is n i r (types_of is (p ∷ []))) typed)

abbrev LoadsBy : List PlainInst → Bool → Two → Type 0
LoadsBy is holds d = IsTrue holds ↔ IsSomeAnd (types_of is (d.second ∷ [])) (Loads is d.first)

pub load_typed : (is : List PlainInst) (n : ℕ) (i : PlainInst) (ids : Two) (holds : Bool) (os : List Plain)
    → i.operands ≡ os → first_of i.opcode ≡ opcode.LOAD → load_in os ≡ Some ids
    → (IsTrue holds ↔ IsSomeAnd (types_of is (ids.second ∷ [])) (Loads is ids.first)) → IsTrue holds ↔ IsTypedIn is n i
load_typed is n i ids holds (OfType r ∷ Result x ∷ Id p ∷ []) e o f h =
    let same : record { first = r; second = p } ≡ ids = same_Some _ _ f in
    load_of is n i r x p [] holds o e (subst (LoadsBy is holds) (sym same) h)
load_typed is n i ids holds (OfType r ∷ Result x ∷ Id p ∷ Mask k m ∷ os) e o f h =
    let same : record { first = r; second = p } ≡ ids = same_Some _ _ f in
    load_masked is n i r x p k m os holds o e (subst (LoadsBy is holds) (sym same) h)
load_typed is n i ids holds os e o f h = absurd (none-some ids f)

store_of : (is : List PlainInst) (n : ℕ) (i : PlainInst) (p x : ℕ) (holds : Bool) → first_of i.opcode ≡ opcode.STORE
    → i.operands ≡ Id p ∷ Id x ∷ []
    → (IsTrue holds ↔ IsSomeAnd (types_of is (p ∷ x ∷ [])) (Stores is)) → IsTrue holds ↔ IsTypedIn is n i
store_of is n i p x holds o e k =
    let line = store_asks i.opcode o in
    let typed = typed_by is n i places.Ids store_line None (Id p ∷ Id x ∷ []) line.0 line.1 (ap result_type_in e)
    (ap after_head e) in
    iff_to k (iff_to (stores_in is n i (types_of is (p ∷ x ∷ []))) typed)

store_masked : (is : List PlainInst) (n : ℕ) (i : PlainInst) (p x a b : ℕ) (os : List Plain) (holds : Bool)
    → first_of i.opcode ≡ opcode.STORE → i.operands ≡ Id p ∷ Id x ∷ Mask a b ∷ os
    → (IsTrue holds ↔ IsSomeAnd (types_of is (p ∷ x ∷ [])) (Stores is)) → IsTrue holds ↔ IsTypedIn is n i
store_masked is n i p x a b os holds o e k =
    let line = store_asks i.opcode o in
    let typed = typed_by is n i places.Ids store_line None (Id p ∷ Id x ∷ Mask a b ∷ os) line.0 line.1
    (ap result_type_in e) (ap after_head e) in
    iff_to k (iff_to (stores_in is n i (types_of is (p ∷ x ∷ []))) typed)

abbrev StoresBy : List PlainInst → Bool → Two → Type 0
StoresBy is holds d = IsTrue holds ↔ IsSomeAnd (types_of is (d.first ∷ d.second ∷ [])) (Stores is)

pub store_typed : (is : List PlainInst) (n : ℕ) (i : PlainInst) (ids : Two) (holds : Bool) (os : List Plain)
    → i.operands ≡ os → first_of i.opcode ≡ opcode.STORE → store_in os ≡ Some ids
    → (IsTrue holds ↔ IsSomeAnd (types_of is (ids.first ∷ ids.second ∷ [])) (Stores is))
    → IsTrue holds ↔ IsTypedIn is n i
store_typed is n i ids holds (Id p ∷ Id x ∷ []) e o f h =
    let same : record { first = p; second = x } ≡ ids = same_Some _ _ f in
    store_of is n i p x holds o e (subst (StoresBy is holds) (sym same) h)
store_typed is n i ids holds (Id p ∷ Id x ∷ Mask k m ∷ os) e o f h =
    let same : record { first = p; second = x } ≡ ids = same_Some _ _ f in
    store_masked is n i p x k m os holds o e (subst (StoresBy is holds) (sym same) h)
store_typed is n i ids holds os e o f h = absurd (none-some ids f)

branch_of : (is : List PlainInst) (n : ℕ) (i : PlainInst) (x l m : ℕ) (holds : Bool)
    → first_of i.opcode ≡ opcode.BRANCH_CONDITIONAL → i.operands ≡ Id x ∷ Id l ∷ Id m ∷ []
    → (IsTrue holds ↔ IsSomeAnd (types_of is (x ∷ [])) (IsCondition is)) → IsTrue holds ↔ IsTypedIn is n i
branch_of is n i x l m holds o e k =
    let line = branch_asks i.opcode o in
    let typed = typed_by is n i places.One branch_line None (Id x ∷ Id l ∷ Id m ∷ []) line.0 line.1
    (ap result_type_in e) (ap after_head e) in
    iff_to k (iff_to (branches_in is n i (types_of is (x ∷ [])) (λ ts. inl (ap words_in e))) typed)

pub branch_typed : (is : List PlainInst) (n : ℕ) (i : PlainInst) (x : ℕ) (holds : Bool) (os : List Plain)
    → i.operands ≡ os → first_of i.opcode ≡ opcode.BRANCH_CONDITIONAL → condition_in os ≡ Some x
    → (IsTrue holds ↔ IsSomeAnd (types_of is (x ∷ [])) (IsCondition is)) → IsTrue holds ↔ IsTypedIn is n i
branch_typed is n i x holds (Id y ∷ Id l ∷ Id m ∷ []) e o f h =
    let same : y ≡ x = same_Some y x f in
    branch_of is n i y l m holds o e (subst
    (λ (z : ℕ). IsTrue holds ↔ IsSomeAnd (types_of is (z ∷ [])) (IsCondition is)) (sym same) h)
branch_typed is n i x holds os e o f h = absurd (none-some x f)

pub extended_typed : (is : List PlainInst) (n : ℕ) (i : PlainInst) (holds : Bool)
    → first_of i.opcode ≡ opcode.EXT_INST → (IsTrue holds ↔ MayStand is n i (result_type_in i.operands))
    → IsTrue holds ↔ IsTypedIn is n i
extended_typed is n i holds o h =
    let line = extended_asks i.opcode o in
    let typed = typed_by is n i places.Nothing extended_line (result_type_in i.operands) (after_head i.operands)
    line.0 line.1 refl refl in
    iff_to h (iff_to (λ m. (m, tt), λ k. k.0) typed)

pub undef_typed : (is : List PlainInst) (n : ℕ) (i : PlainInst) (holds : Bool) → first_of i.opcode ≡ opcode.UNDEF
    → (IsTrue holds ↔ IsSomeAnd (result_type_in i.operands) (IsData is)) → IsTrue holds ↔ IsTypedIn is n i
undef_typed is n i holds o h =
    let line = undef_asks i.opcode o in
    let typed = typed_by is n i places.Nothing undef_line (result_type_in i.operands) (after_head i.operands)
    line.0 line.1 refl refl in
    iff_to h (iff_to (λ m. (m, tt), λ k. k.0) typed)
