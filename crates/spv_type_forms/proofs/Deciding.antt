-- Whether a type has no null value, decided.
use Rattle.std.proofs.Common.{◌≡◌, ◌<◌, ◌∙◌, ◌⊎◌, ◌↔◌, ℕ, zero, suc, List, Option, Some, None}
use Rattle.std.proofs.Common.{Bool, true, false}
use Rattle.std.proofs.Common.{refl, sym, ap, subst, inl, inr, length, arith, option_and_then}
use Rattle.std.specs.Prelude.{IsTrue, slice_get, option_map}
use Rattle.std.proofs.lemmas.Bool.{cases_eq, cases_lt}
use Rattle.std.proofs.lemmas.Option.{none-some, slice_get_within, option_and_then_some}
use Rattle.spv_module.specs.Operand.{Plain, PlainInst, result_in}
use Rattle.spv_module.specs.Width.{definition_of}
use Rattle.spv_ids.specs.Definition.{IsDefinedAt}
use Rattle.spv_ids.specs.Outcome.{IsOnly}
use Rattle.spv_type_forms.specs.declared.form.Form.{Form}
use Rattle.spv_type_forms.specs.declared.form.Form.TheVariants as form
use Rattle.spv_type_forms.specs.Form.{form_in, form_of}
use Rattle.spv_type_forms.specs.Parts.{members_of, id_in, after_result}
use Rattle.spv_type_forms.specs.Null.{lacks_null, LacksNull}
use Rattle.spv_type_forms.specs.inner.Null.{LacksBefore, MemberLacks, OneLacks}
use Rattle.spv_type_forms.proofs.Lacking.{of_object, of_array, of_struct, of_others, may_lack}

abbrev pub Is : Type 0 → Type 0
Is P = P ⊎ (P → ⊥)

-- some number below another for which it is so, or none
search_below : (P : ℕ → Type 0) → ((k : ℕ) → Is (P k)) → (n : ℕ)
    → ((k : ℕ) × (k < n) × P k) ⊎ ((k : ℕ) → k < n → P k → ⊥)
search_below P d zero = inr (λ k l p. absurd (omega arith))
search_below P d (suc n) = elim (d n) [
  | inl p ↦ inl (n, (omega arith), p)
  | inr never_so ↦ elim (search_below P d n) [
    | inl f ↦ inl (f.0, (let l = f.1 in omega arith), f.2)
    | inr none ↦ inr (λ k l p. elim (cases_eq k n) [
      | inl e ↦ never_so (subst P e p)
      | inr ne ↦ none k (omega arith) p
    ])
  ]
]

result_or_not : (o : Option ℕ) (x : ℕ) → Is (o ≡ Some x)
result_or_not None x = inr (λ e. none-some x e)
result_or_not (Some y) x = elim (cases_eq y x) [
  | inl e ↦ inl (ap Some e)
  | inr ne ↦ inr (λ s. ne (let same : y ≡ x = cc in same))
]

defined_by : (is : List PlainInst) (x n : ℕ) (o : Option PlainInst) → slice_get is n ≡ o → Is (IsDefinedAt is x n)
defined_by is x n None at = inr (λ d. none-some d.inst (sym at ∙ d.there))
defined_by is x n (Some i) at = elim (result_or_not (result_in i.operands) x) [
  | inl r ↦ inl (record { inst = i; there = at; result = r })
  | inr never_so ↦ inr (λ d. never_so (let same : i ≡ d.inst = cc (at, d.there) in rw same d.result))
]

defined_or_not : (is : List PlainInst) (x n : ℕ) → Is (IsDefinedAt is x n)
defined_or_not is x n = defined_by is x n (slice_get is n) refl

within : (is : List PlainInst) (x n : ℕ) → IsDefinedAt is x n → n < length is
within is x n d = slice_get_within is n d.inst d.there

another_or_not : (is : List PlainInst) (x m k : ℕ) → Is (IsDefinedAt is x k × (k ≡ m → ⊥))
another_or_not is x m k = elim (defined_or_not is x k) [
  | inr never_so ↦ inr (λ p. never_so p.0)
  | inl d ↦ elim (cases_eq k m) [ inl e ↦ inr (λ p. p.1 e) | inr ne ↦ inl (d, ne) ]
]

-- the one place where an id is defined, if there is one
pub one_place : (is : List PlainInst) (x : ℕ) → ((m : ℕ) × IsOnly is x m) ⊎ ((m : ℕ) → IsOnly is x m → ⊥)
one_place is x = elim (search_below (IsDefinedAt is x) (defined_or_not is x) (length is)) [
  | inr none ↦ inr (λ m o. none m (within is x m o.there) o.there)
  | inl s ↦ elim (search_below (λ k. IsDefinedAt is x k × (k ≡ s.0 → ⊥)) (another_or_not is x s.0) (length is)) [
    | inl t ↦ inr (λ m o. t.2.1 (o.only t.0 t.2.0 ∙ sym (o.only s.0 s.2)))
    | inr never ↦ inl (
      s.0,
      record {
        there = s.2;
        only = λ k d. elim (cases_eq k s.0) [ inl e ↦ e | inr ne ↦ absurd (never k (within is x k d) (d, ne)) ];
      },
    )
  ]
]

by_same : (P Q : Type 0) → (P ↔ Q) → Is P → Is Q
by_same P Q e (inl p) = inl (e.0 p)
by_same P Q e (inr never_so) = inr (λ q. never_so (e.1 q))

true_or_not : (b : Bool) → Is (IsTrue b)
true_or_not true = inl refl
true_or_not false = inr (λ y. let never_so : false ≡ true = y in cc)

-- It is decided of the types that are defined before instruction m.
abbrev AreDecided : List PlainInst → ℕ → Type 0
AreDecided is m = (u p : ℕ) → IsOnly is u p → p < m → Is (LacksNull is u)

before_or_not : (is : List PlainInst) (m u : ℕ) → AreDecided is m → Is (LacksBefore is m u)
before_or_not is m u d = elim (one_place is u) [
  | inr none ↦ inr (λ r. none r.place r.one)
  | inl q ↦ elim (cases_lt q.0 m) [
    | inr late ↦ inr (λ r.
        let e : r.place ≡ q.0 = q.1.only r.place r.one.there in
        let l = r.before in
        absurd (omega arith))
    | inl l ↦ elim (d u q.0 q.1 l) [
      | inl y ↦ inl (record { place = q.0; before = l; one = q.1; lacks = y })
      | inr never_so ↦ inr (λ r. never_so r.lacks)
    ]
  ]
]

member_by : (is : List PlainInst) (m k : ℕ) (ms : List Plain) (o : Option ℕ)
    → option_and_then id_in (slice_get ms k) ≡ o → AreDecided is m → Is (MemberLacks is m ms k)
member_by is m k ms None e d = inr (λ r. none-some r.id (sym e ∙ r.named))
member_by is m k ms (Some u) e d = elim (before_or_not is m u d) [
  | inl y ↦ inl (record { id = u; named = e; lacks = y })
  | inr never_so ↦ inr (λ r. never_so (
      let same : r.id ≡ u = (let s : Some r.id ≡ Some u = sym r.named ∙ e in cc) in rw same at r.lacks))
]

one_or_not : (is : List PlainInst) (m : ℕ) (ms : List Plain) → AreDecided is m → Is (OneLacks is m ms)
one_or_not is m ms d =
    let told = λ (k : ℕ). member_by is m k ms (option_and_then id_in (slice_get ms k)) refl d in
    elim (search_below (MemberLacks is m ms) told (length ms)) [
      | inl f ↦ inl (f.0, f.2)
      | inr none ↦ inr (λ r. none r.0 (option_and_then_some id_in (slice_get ms r.0) r.1.id r.1.named
          (λ o at i. slice_get_within ms r.0 o at)) r.1)
    ]

-- a struct type has members
pub members_there : (is : List PlainInst) (t : ℕ) → form_of is t ≡ Some form.Struct
    → (ms : List Plain) × (members_of is t ≡ Some ms)
members_there is t f = by (definition_of is t) refl f where
  by : (o : Option PlainInst) → definition_of is t ≡ o → option_and_then form_in o ≡ Some form.Struct
      → (ms : List Plain) × (members_of is t ≡ Some ms)
  by None e g = absurd (none-some form.Struct g)
  by (Some i) e g = (after_result i.operands, ap (option_map (λ (j : PlainInst). after_result j.operands)) e)

by_form : (is : List PlainInst) (t m : ℕ) (o : Option Form) → form_of is t ≡ o → IsOnly is t m → AreDecided is m
    → Is (LacksNull is t)
by_form is t m (Some (form.Object x)) f one d = by_same (IsTrue (lacks_null x)) (LacksNull is t) (of_object is t x f)
    (true_or_not (lacks_null x))
by_form is t m (Some (form.Array e l)) f one d = by_same (LacksBefore is m e) (LacksNull is t)
    (of_array is t m e l one f) (before_or_not is m e d)
by_form is t m (Some form.Struct) f one d =
    let ms = members_there is t f in
    by_same (OneLacks is m ms.0) (LacksNull is t) (of_struct is t m ms.0 one f ms.1) (one_or_not is m ms.0 d)
by_form is t m None f one d = inr (of_others is t (ap may_lack f))
by_form is t m (Some form.Void) f one d = inr (of_others is t (ap may_lack f))
by_form is t m (Some (form.Scalar s)) f one d = inr (of_others is t (ap may_lack f))
by_form is t m (Some (form.Vector c n)) f one d = inr (of_others is t (ap may_lack f))
by_form is t m (Some form.Opaque) f one d = inr (of_others is t (ap may_lack f))
by_form is t m (Some (form.Pointer c p)) f one d = inr (of_others is t (ap may_lack f))
by_form is t m (Some form.Function) f one d = inr (of_others is t (ap may_lack f))
by_form is t m (Some (form.SampledImage i)) f one d = inr (of_others is t (ap may_lack f))

decided_below : (n : ℕ) (is : List PlainInst) → AreDecided is n
decided_below zero is u p one l = absurd (omega arith)
decided_below (suc n) is u p one l = by_form is u p (form_of is u) refl one
    (λ v q other k. decided_below n is v q other (omega arith))

-- where no one instruction defines a type, it has no null value only if it is one of such objects

abbrev is_lacking : Option Form → Bool
is_lacking (Some (form.Object o)) = lacks_null o
is_lacking _ = false

alone_lacks : (is : List PlainInst) (t : ℕ) → ((m : ℕ) → IsOnly is t m → ⊥) → LacksNull is t
    → IsTrue (is_lacking (form_of is t))
alone_lacks is t none (LacksNull.itself _ o f y) = rw f y
alone_lacks is t none (LacksNull.element _ e l f a b) = absurd (none a.later a.next)
alone_lacks is t none (LacksNull.member _ k u f p a b) = absurd (none a.later a.next)

object_lacks : (is : List PlainInst) (t : ℕ) (o : Option Form) → form_of is t ≡ o → IsTrue (is_lacking o)
    → LacksNull is t
object_lacks is t (Some (form.Object x)) f y = LacksNull.itself t x f y
object_lacks is t o f y = absurd (let never_so : false ≡ true = y in cc)

object_alone : (is : List PlainInst) (t : ℕ) → ((m : ℕ) → IsOnly is t m → ⊥) → Is (LacksNull is t)
object_alone is t none = by_same (IsTrue (is_lacking (form_of is t))) (LacksNull is t)
    (object_lacks is t (form_of is t) refl, alone_lacks is t none) (true_or_not (is_lacking (form_of is t)))

pub lacks_or_not : (is : List PlainInst) (t : ℕ) → LacksNull is t ⊎ (LacksNull is t → ⊥)
lacks_or_not is t = elim (one_place is t) [
  | inl q ↦ decided_below (suc q.0) is t q.0 q.1 (omega arith)
  | inr none ↦ object_alone is t none
]
