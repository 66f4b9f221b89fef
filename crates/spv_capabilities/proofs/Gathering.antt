-- What is gathered, one instruction on.
use Rattle.std.proofs.Common.{◌≡◌, ◌≢◌, ◌∙◌, ◌+◌, ◌++◌, ◌↔◌, ℕ, zero, suc, List, [], ◌∷◌, refl, sym, ap, inl, inr}
use Rattle.std.proofs.Common.{Option, Some, None, Bool, true, false, IsTrue, length, take, nat_eq, arith, add-one}
use Rattle.std.specs.Prelude.{slice_get, filter_map}
use Rattle.std.proofs.lemmas.List.{append-nil}
use Rattle.std.proofs.lemmas.List.Elements.{filter_map-append}
use Rattle.std.proofs.lemmas.Option.{slice_get_within}
use Rattle.std.proofs.lemmas.Bool.Decides.{nat_tests}
use Rattle.spv_module.specs.Operand.{PlainInst}
use Rattle.spv_module.specs.declared.opcode.TheConstants as opcode
use Rattle.spv_ids.specs.Order.{HasOpcode}
use Rattle.spv_capabilities.specs.Capable.{first_value}
use Rattle.spv_capabilities.specs.inner.Capable.{declared_by}
use Rattle.spv_capabilities.specs.Entry.{called_by, entered_by, imported_by, third_id, second_id, linked_id}
use Rattle.spv_capabilities.specs.inner.Survey.{IsEntryBefore}
use Rattle.spv_capabilities.proofs.Marked.{below_or}

-- the front with one instruction more
take_one : (is : List PlainInst) (to : ℕ) (i : PlainInst) → slice_get is to ≡ Some i
    → take (suc to) is ≡ take to is ++ i ∷ []
take_one [] to i h = absurd (let no : None ≡ Some i = h in cc)
take_one (j ∷ is) zero i h = let e : j ≡ i = cc in ap (λ k. k ∷ []) e
take_one (j ∷ is) (suc to) i h = ap (λ l. j ∷ l) (take_one is to i h)

declared_front : (is : List PlainInst) (to : ℕ) (i : PlainInst) → slice_get is to ≡ Some i
    → filter_map declared_by (take (to + 1) is) ≡ filter_map declared_by (take to is) ++ filter_map declared_by (i ∷ [])
declared_front is to i h =
    ap (λ n. filter_map declared_by (take n is)) (add-one to) ∙ ap (filter_map declared_by) (take_one is to i h)
    ∙ filter_map-append declared_by (take to is) (i ∷ [])

pub declared_none : (is : List PlainInst) (to : ℕ) (i : PlainInst) (cs : List ℕ) → slice_get is to ≡ Some i
    → declared_by i ≡ None → cs ≡ filter_map declared_by (take to is) → cs ≡ filter_map declared_by (take (to + 1) is)
declared_none is to i cs h e a =
    let l : filter_map declared_by (i ∷ []) ≡ [] = rw e refl in
    a ∙ sym (declared_front is to i h ∙ ap (λ k. filter_map declared_by (take to is) ++ k) l
    ∙ append-nil (filter_map declared_by (take to is)))

pub declared_one : (is : List PlainInst) (to c : ℕ) (i : PlainInst) (cs : List ℕ) → slice_get is to ≡ Some i
    → declared_by i ≡ Some c → cs ≡ filter_map declared_by (take to is)
    → cs ++ c ∷ [] ≡ filter_map declared_by (take (to + 1) is)
declared_one is to c i cs h e a =
    let l : filter_map declared_by (i ∷ []) ≡ c ∷ [] = rw e refl in
    ap (λ k. k ++ c ∷ []) a ∙ sym (declared_front is to i h ∙ ap (λ k. filter_map declared_by (take to is) ++ k) l)

-- an OpEntryPoint, and another instruction
pub entry_here : (is : List PlainInst) (to : ℕ) (i : PlainInst) → slice_get is to ≡ Some i
    → i.opcode ≡ opcode.ENTRY_POINT → IsTrue true ↔ IsEntryBefore is (to + 1)
entry_here is to i h e =
    (λ t. record { place = to; below = omega arith; there = record { inst = i; there = h; same = e } }, λ n. refl)

pub entry_other : (is : List PlainInst) (to : ℕ) (i : PlainInst) (b : Bool) → slice_get is to ≡ Some i
    → i.opcode ≢ opcode.ENTRY_POINT → IsTrue b ↔ IsEntryBefore is to → IsTrue b ↔ IsEntryBefore is (to + 1)
entry_other is to i b h ne a = (
  λ t. let n = a.0 t in let l = n.below in record { place = n.place; below = omega arith; there = n.there },
  λ n. elim (below_or n.place to n.below) [
    | inl l ↦ a.1 (record { place = n.place; below = l; there = n.there })
    | inr q ↦
        let t : slice_get is to ≡ Some n.there.inst = rw q at n.there.there in
        let s : n.there.inst ≡ i = cc in
        absurd (ne (rw s at n.there.same))
  ],
)

pub all_entries : (is : List PlainInst) → IsEntryBefore is (length is) ↔ ((n : ℕ) × HasOpcode is n opcode.ENTRY_POINT)
all_entries is = (
  λ e. (e.place, e.there),
  λ e. record { place = e.0; below = slice_get_within is e.0 e.1.inst e.1.there; there = e.1 },
)

pub some_entry : (is : List PlainInst) (b : Bool) → IsTrue b ↔ IsEntryBefore is (length is)
    → IsTrue b ↔ ((n : ℕ) × HasOpcode is n opcode.ENTRY_POINT)
some_entry is b e = let a = all_entries is in (λ t. a.0 (e.0 t), λ n. e.1 (a.1 n))

-- what is gathered of an instruction, by its opcode
test_other : (y x : ℕ) → y ≢ x → nat_eq y x ≡ false
test_other y x h = grind (arith, nat_tests)

pub declared_here : (i : PlainInst) (o : Option ℕ) → i.opcode ≡ opcode.CAPABILITY → o ≡ first_value i.operands
    → declared_by i ≡ o
declared_here i o e f = rw e (sym f)

pub called_here : (i : PlainInst) (o : Option ℕ) → i.opcode ≡ opcode.FUNCTION_CALL → o ≡ third_id i.operands
    → called_by i ≡ o
called_here i o e f = rw e (sym f)

pub entered_here : (i : PlainInst) (o : Option ℕ) → i.opcode ≡ opcode.ENTRY_POINT → o ≡ second_id i.operands
    → entered_by i ≡ o
entered_here i o e f = rw e (sym f)

pub imported_here : (l : Option ℕ) (i : PlainInst) (o : Option ℕ) → i.opcode ≡ opcode.DECORATE
    → o ≡ linked_id l i.operands → imported_by l i ≡ o
imported_here l i o e f = rw e (sym f)

pub not_declared : (i : PlainInst) → i.opcode ≢ opcode.CAPABILITY → declared_by i ≡ None
not_declared i h = rw (test_other i.opcode opcode.CAPABILITY h) refl

pub not_called : (i : PlainInst) → i.opcode ≢ opcode.FUNCTION_CALL → called_by i ≡ None
not_called i h = rw (test_other i.opcode opcode.FUNCTION_CALL h) refl

pub not_entered : (i : PlainInst) → i.opcode ≢ opcode.ENTRY_POINT → entered_by i ≡ None
not_entered i h = rw (test_other i.opcode opcode.ENTRY_POINT h) refl

pub not_imported : (l : Option ℕ) (i : PlainInst) → i.opcode ≢ opcode.DECORATE → imported_by l i ≡ None
not_imported l i h = rw (test_other i.opcode opcode.DECORATE h) refl
