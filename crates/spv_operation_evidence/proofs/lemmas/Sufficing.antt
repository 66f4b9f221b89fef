-- What is evidence for Y5 shows that the rule is broken.
use Rattle.std.proofs.Common.{◌≡◌, ◌∙◌, ℕ, List, Some, inl, inr, sym, ap, subst, length, map}
use Rattle.std.specs.Prelude.{slice_get}
use Rattle.std.specs.List.{AllByRecursion}
use Rattle.std.proofs.lemmas.List.{length-map}
use Rattle.spv_table.specs.Table.{Table}
use Rattle.spv_module.specs.Operand.{PlainInst}
use Rattle.spv_module.specs.declared.fault.Rule.{Rule}
use Rattle.spv_layout.specs.declared.form.Form.{Form}
use Rattle.spv_layout.proofs.Shapes.{forms_same}
use Rattle.spv_type_forms.specs.Values.{AreValues, types_of, used_in}
use Rattle.spv_ops.specs.Table.{conditions_of}
use Rattle.spv_ops.specs.Typed.{Typed, IsTyped}
use Rattle.spv_type_rules.specs.Keeps.{Keeps}
use Rattle.spv_evidence.specs.declared.evidence.Evidence.{Evidence}
use Rattle.spv_conditions.specs.declared.asked.Asked.{Asked}
use Rattle.spv_readings.specs.declared.values.Value.{Value}
use Rattle.spv_readings.specs.Values.{types_in}
use Rattle.spv_conditions.specs.Condition.{FailsFirst}
use Rattle.spv_conditions.proofs.lemmas.Listing.{not_all}
use Rattle.spv_operation_evidence.specs.Evidence.{Shows, IsEvidence, HoldsAt}

values_same : (G : Table) (i : PlainInst) (xs ys : List ℕ) → AreValues G i xs → AreValues G i ys → xs ≡ ys
values_same G i xs ys a b =
    let same : a.forms ≡ b.forms = forms_same G i a.forms b.forms a.has b.has in
    sym a.values ∙ ap (λ (fs : List Form). used_in fs i.operands) same ∙ b.values

types_broken : (G : Table) (is : List PlainInst) (n : ℕ) (i : PlainInst) (xs us : List ℕ) → AreValues G i xs
    → types_of is xs ≡ Some us → ¬ (Typed is n i us)
    → ((ys ts : List ℕ) × AreValues G i ys × (types_of is ys ≡ Some ts) × Typed is n i ts) → ⊥
types_broken G is n i xs us a t never h =
    let ids : h.0 ≡ xs = values_same G i h.0 xs h.2 a in
    let types : Some h.1 ≡ Some us = sym h.3 ∙ ap (types_of is) ids ∙ t in
    let same : h.1 ≡ us = cc in
    never (subst (λ ts. Typed is n i ts) same h.4)

first_breaks : (is : List PlainInst) (n : ℕ) (i : PlainInst) (vs : List Value) (a : Asked)
    → FailsFirst (HoldsAt is n i vs) (conditions_of i.opcode (length vs)) a → ¬ (Typed is n i (types_in vs))
first_breaks is n i vs a f h =
    not_all (HoldsAt is n i vs) (conditions_of i.opcode (length vs)) a f
    (subst (λ m. AllByRecursion (HoldsAt is n i vs) (conditions_of i.opcode m)) (length-map vs (λ (v : Value). v.of)) h)

shows_broken : (G : Table) (is : List PlainInst) (n : ℕ) (i : PlainInst) (r : Rule) (e : Evidence) → Shows G is n i r e
    → Keeps (IsTyped G is) is r n i → ⊥
shows_broken G is n i _ _ (Shows.operation vs a m bound t f by) (inl free) = bound free
shows_broken G is n i _ _ (Shows.operation vs a m bound t f by) (inr h) =
    types_broken G is n i (map (λ v. v.id) vs) (types_in vs) t.values t.types (first_breaks is n i vs a f) h

pub suffices : (G : Table) (is : List PlainInst) (r : Rule) (n : ℕ) (e : Evidence) → IsEvidence G is r n e
    → (i : PlainInst) → slice_get is n ≡ Some i → ¬ (Keeps (IsTyped G is) is r n i)
suffices G is r n e v i at h =
    let same : v.inst ≡ i = let f : Some v.inst ≡ Some i = sym v.there ∙ at in cc in
    shows_broken G is n i r e (subst (λ j. Shows G is n j r e) same v.shows) h
