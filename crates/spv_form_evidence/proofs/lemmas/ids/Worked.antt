-- The worked examples.
use Rattle.std.proofs.Common.{◌≡◌, ◌∙◌, ℕ, zero, suc, List, [], ◌∷◌, Some, refl, sym, subst, inl, inr, arith}
use Rattle.std.specs.Prelude.{slice_get}
use Rattle.spv_table.specs.Table.{Table}
use Rattle.spv_module.specs.Example.{small}
use Rattle.spv_module.specs.Operand.{OfType, Result, Id, PlainInst}
use Rattle.spv_module.specs.declared.fault.Rule.{Rule}
use Rattle.spv_module.specs.declared.fault.Rule.TheVariants.{D1, D2, D3, D4, Y1}
use Rattle.spv_module.specs.declared.opcode.TheConstants as opcode
use Rattle.spv_layout.specs.declared.class.Class.TheVariants as class
use Rattle.spv_layout.specs.declared.class.Class.TheVariants.{Declaration, Function}
use Rattle.spv_layout.specs.declared.form.Form.TheVariants as form
use Rattle.spv_layout.specs.declared.form.Role.{Role}
use Rattle.spv_layout.specs.declared.form.Role.TheVariants as role
use Rattle.spv_layout.specs.Row.{repeated, closed}
use Rattle.spv_layout.specs.inner.Row.{row, t, R}
use Rattle.spv_layout.specs.Rows.{rows}
use Rattle.spv_layout.specs.Shape.{AreOf, Ends, HasForms, IsUse}
use Rattle.spv_layout.specs.Place.{IsAt, IsOfSection}
use Rattle.spv_layout.proofs.Shapes.{use_same}
use Rattle.spv_ids.specs.Definition.{IsDefinedAt, IsUsedAt, IsMentionedAt}
use Rattle.spv_ids.specs.Order.{IsInOrder}
use Rattle.spv_ids.specs.Broken.{IsOutOfRange}
use Rattle.spv_ids.specs.Example.{void, of_void}
use Rattle.spv_evidence.specs.declared.evidence.Evidence.{Evidence}
use Rattle.spv_evidence.specs.declared.evidence.Evidence.TheVariants.{Operand, Earlier, Defined, Miscast}
use Rattle.spv_form_evidence.specs.ids.Example.{undef, mentioning, value_as_type}
use Rattle.spv_form_evidence.specs.ids.Evidence as by_ids
use Rattle.spv_form_evidence.specs.ids.Roles as by_roles
use Rattle.spv_form_evidence.proofs.lemmas.ids.Using.{same_inst, no_use_of, no_mention_of}
use Rattle.spv_form_evidence.proofs.lemmas.ids.Rules.{result_here}

-- Uses.

type_forms : HasForms small of_void (R ∷ t ∷ [])
unfolding rows
type_forms = record {
  row = row opcode.TYPE_FUNCTION opcode.TYPE_FUNCTION Declaration (R ∷ t ∷ []) (repeated (t ∷ []));
  rest = [];
  known = refl;
  forms = refl;
  ending = Ends.done (t ∷ []);
  each = AreOf.more R (Result 2) (t ∷ []) (Id 1 ∷ []) refl (AreOf.more t (Id 1) [] [] refl AreOf.none);
}

type_use : IsUse small of_void 1 1 role.OfType
type_use = record {
  forms = R ∷ t ∷ [];
  has = type_forms;
  form = t;
  operand = Id 1;
  form_at = refl;
  operand_at = refl;
  role = refl;
  id = refl;
}

undef_forms : (G : Table) → HasForms G (undef 2 3) (form.OfType ∷ form.Result ∷ [])
unfolding rows
undef_forms G = record {
  row = row opcode.UNDEF opcode.UNDEF class.Undef (form.OfType ∷ form.Result ∷ []) closed;
  rest = [];
  known = refl;
  forms = refl;
  ending = Ends.nothing;
  each = AreOf.more _ _ _ _ refl (AreOf.more _ _ _ _ refl AreOf.none);
}

undef_use : (G : Table) → IsUse G (undef 2 3) 0 2 role.OfType
undef_use G = record {
  forms = _;
  has = undef_forms G;
  form = form.OfType;
  operand = OfType 2;
  form_at = refl;
  operand_at = refl;
  role = refl;
  id = refl;
}

used_at : (G : Table) (is : List PlainInst) (n k x : ℕ) (r : Role) (i : PlainInst) → slice_get is n ≡ Some i
    → IsUsedAt G is n k x r → IsUse G i k x r
used_at G is n k x r i t u = subst (λ j. IsUse G j k x r) (same_inst is n u.inst i u.there t) u.used

-- D1

pub out_of_range : by_ids.IsEvidence small 5 (void 5 ∷ []) D1 0 (Operand 0)
out_of_range = by_ids.IsEvidence.result_out_of_range 0 0 5
    (record { defined = record { inst = void 5; there = refl; result = refl }; operand = refl }) (inr (omega arith))

four_in_range : (x : ℕ) → x ≡ 4 → ¬ (IsOutOfRange 5 x)
four_in_range x e (inl h) = absurd (omega (arith, e, h))
four_in_range x e (inr h) = absurd (omega (arith, e))

in_range_by : (r : Rule) (n : ℕ) (e : Evidence) → by_ids.IsEvidence small 5 (void 4 ∷ []) r n e → r ≡ D1 → n ≡ 0
    → e ≡ Operand 0 → ⊥
in_range_by _ _ _ (by_ids.IsEvidence.result_out_of_range n k x d o) a b c =
    let h : IsDefinedAt (void 4 ∷ []) x 0 = subst (λ m. IsDefinedAt (void 4 ∷ []) x m) b d.defined in
    let q = result_here (void 4 ∷ []) 0 x (void 4) refl h in
    let s : x ≡ 4 = cc in
    four_in_range x s o
in_range_by _ _ _ (by_ids.IsEvidence.use_out_of_range n k x r u o) a b c =
    let w : IsUsedAt small (void 4 ∷ []) 0 k x r = subst (λ m. IsUsedAt small (void 4 ∷ []) m k x r) b u in
    let s : k ≡ 0 = cc in
    let v : IsUse small (void 4) 0 x r = subst (λ m. IsUse small (void 4) m x r) s
    (used_at small (void 4 ∷ []) 0 k x r (void 4) refl w) in
    no_use_of small (void 4) 0 x r (Result 4) refl refl v
in_range_by _ _ _ (by_ids.IsEvidence.mention_out_of_range n k x m o) a b c =
    let w : IsMentionedAt (void 4 ∷ []) 0 k x = subst (λ p. IsMentionedAt (void 4 ∷ []) p k x) b m in
    let s : k ≡ 0 = cc in
    no_mention_of (void 4 ∷ []) 0 0 x (void 4) (Result 4) refl refl refl
    (subst (λ p. IsMentionedAt (void 4 ∷ []) 0 p x) s w)
in_range_by _ _ _ _ a b c = cc

pub in_range : ¬ (by_ids.IsEvidence small 5 (void 4 ∷ []) D1 0 (Operand 0))
in_range e = in_range_by D1 0 (Operand 0) e refl refl refl

pub mention_out_of_range : by_ids.IsEvidence small 5 (mentioning 5 ∷ []) D1 0 (Operand 4)
mention_out_of_range =
    by_ids.IsEvidence.mention_out_of_range 0 4 5 (record { inst = mentioning 5; there = refl; named = refl })
    (inr (omega arith))

-- D2

first_here : (is : List PlainInst) (x : ℕ) → IsDefinedAt (void x ∷ is) x 0
first_here is x = record { inst = void x; there = refl; result = refl }

pub again : by_ids.IsEvidence small 5 (void 1 ∷ void 1 ∷ []) D2 1 (Earlier 0)
again = by_ids.IsEvidence.defined_again 1 0 1 (record { inst = void 1; there = refl; result = refl }) (omega arith)
    (first_here (void 1 ∷ []) 1)

earlier_by : (r : Rule) (n : ℕ) (e : Evidence) → by_ids.IsEvidence small 5 (void 1 ∷ void 1 ∷ []) r n e → r ≡ D2 → n ≡ 1
    → e ≡ Earlier 1 → ⊥
earlier_by _ _ _ (by_ids.IsEvidence.defined_again n m x d l e) a b c = let s : m ≡ 1 = cc in absurd (omega arith)
earlier_by _ _ _ _ a b c = cc

pub not_earlier : ¬ (by_ids.IsEvidence small 5 (void 1 ∷ void 1 ∷ []) D2 1 (Earlier 1))
not_earlier e = earlier_by D2 1 (Earlier 1) e refl refl refl

-- D3

none_defined : (m : ℕ) → ¬ (IsDefinedAt (of_void ∷ []) 1 m)
none_defined zero d = let q = result_here (of_void ∷ []) 0 1 of_void refl d in cc
none_defined (suc m) d = let e = d.there in cc

pub undefined : by_ids.IsEvidence small 5 (of_void ∷ []) D3 0 (Operand 1)
undefined = by_ids.IsEvidence.undefined 0 1 1 role.OfType
    (record { inst = of_void; there = refl; used = type_use }) none_defined

no_use_by : (r : Rule) (n : ℕ) (e : Evidence) → by_ids.IsEvidence small 5 (of_void ∷ []) r n e → r ≡ D3 → n ≡ 0
    → e ≡ Operand 0 → ⊥
no_use_by _ _ _ (by_ids.IsEvidence.undefined n k x r u h) a b c =
    let w : IsUsedAt small (of_void ∷ []) 0 k x r = subst (λ m. IsUsedAt small (of_void ∷ []) m k x r) b u in
    let s : k ≡ 0 = cc in
    let v : IsUse small of_void 0 x r = subst (λ m. IsUse small of_void m x r) s
    (used_at small (of_void ∷ []) 0 k x r of_void refl w) in
    no_use_of small of_void 0 x r (Result 2) refl refl v
no_use_by _ _ _ (by_ids.IsEvidence.mention_undefined n k x m h) a b c =
    let w : IsMentionedAt (of_void ∷ []) 0 k x = subst (λ p. IsMentionedAt (of_void ∷ []) p k x) b m in
    let s : k ≡ 0 = cc in
    no_mention_of (of_void ∷ []) 0 0 x of_void (Result 2) refl refl refl
    (subst (λ p. IsMentionedAt (of_void ∷ []) 0 p x) s w)
no_use_by _ _ _ _ a b c = cc

pub no_use : ¬ (by_ids.IsEvidence small 5 (of_void ∷ []) D3 0 (Operand 0))
no_use e = no_use_by D3 0 (Operand 0) e refl refl refl

not_defined : (m : ℕ) → ¬ (IsDefinedAt (mentioning 4 ∷ []) 4 m)
not_defined zero d = let q = result_here (mentioning 4 ∷ []) 0 4 (mentioning 4) refl d in cc
not_defined (suc m) d = let e = d.there in cc

pub mention_undefined : by_ids.IsEvidence small 5 (mentioning 4 ∷ []) D3 0 (Operand 4)
mention_undefined = by_ids.IsEvidence.mention_undefined 0 4 4
    (record { inst = mentioning 4; there = refl; named = refl }) not_defined

-- D4

abbrev reversed : List PlainInst
reversed = of_void ∷ void 1 ∷ []

not_in_order : ¬ (IsInOrder reversed 0 1)
not_in_order (IsInOrder.lower m h d) = absurd (omega arith)
not_in_order (IsInOrder.announced s o) = let e = o.there in let f : of_void ≡ o.inst = cc in
    let g = rw (← f) at o.same in absurd (omega (arith, g))
not_in_order (IsInOrder.member m s o h a) = absurd (omega arith)

-- in section 9, where no OpFunction stands
declared : IsOfSection reversed 0 11
unfolding rows
declared = IsOfSection.global Declaration refl refl (λ f l. let u = l.up_to in no_first f (omega arith) l.there) where
  no_first : (f : ℕ) → f ≡ 0 → ¬ (IsAt reversed f (Function ∷ []))
  no_first zero e a = cc
  no_first (suc f) e a = absurd (omega (arith, e))

pub early : by_ids.IsEvidence small 5 (of_void ∷ void 1 ∷ []) D4 0 (Defined 1 1)
early =
    by_ids.IsEvidence.not_in_order 0 1 1 1 role.OfType (record { inst = of_void; there = refl; used = type_use })
    (inr declared) not_in_order
    (record { inst = void 1; there = refl; result = refl })

no_definition_by : (r : Rule) (n : ℕ) (e : Evidence) → by_ids.IsEvidence small 5 reversed r n e → r ≡ D4 → n ≡ 0
    → e ≡ Defined 1 0 → ⊥
no_definition_by _ _ _ (by_ids.IsEvidence.not_in_order n k x m r u o h d) a b c =
    let w : IsUsedAt small reversed 0 k x r = subst (λ p. IsUsedAt small reversed p k x r) b u in
    let s : k ≡ 1 = cc in
    let z : m ≡ 0 = cc in
    let v : IsUse small of_void 1 x r = subst (λ p. IsUse small of_void p x r) s
    (used_at small reversed 0 k x r of_void refl w) in
    let p = use_same small of_void 1 x 1 r role.OfType v type_use in
    let q : IsDefinedAt reversed x 0 = subst (λ p. IsDefinedAt reversed x p) z d in
    let g = result_here reversed 0 x of_void refl q in
    let y : 2 ≡ x = cc in
    let l = p.id in
    absurd (omega (arith, y, l))
no_definition_by _ _ _ _ a b c = cc

pub no_definition : ¬ (by_ids.IsEvidence small 5 (of_void ∷ void 1 ∷ []) D4 0 (Defined 1 0))
no_definition e = no_definition_by D4 0 (Defined 1 0) e refl refl refl

-- Y1

pub miscast : (G : Table) → by_roles.IsEvidence G value_as_type Y1 2 (Miscast 0 role.OfType 1)
miscast G =
    by_roles.IsEvidence.miscast 2 0 2 1 role.OfType (record { inst = undef 2 3; there = refl; used = undef_use G })
    (λ p. elim p [
      | inl w ↦ (let l = w.0 in absurd (omega arith))
      | inr q ↦ elim q [ inl e ↦ absurd (omega (arith, e)) | inr e ↦ absurd (omega (arith, e)) ]
    ])
    (record { inst = undef 1 2; there = refl; result = refl })

other_role_by : (G : Table) (r : Rule) (n : ℕ) (e : Evidence) → by_roles.IsEvidence G value_as_type r n e → n ≡ 2
    → e ≡ Miscast 0 role.Value 1 → ⊥
other_role_by G _ _ _ (by_roles.IsEvidence.miscast n k x m r u h d) b c =
    let w : IsUsedAt G value_as_type 2 k x r = subst (λ p. IsUsedAt G value_as_type p k x r) b u in
    let s : k ≡ 0 = cc in
    let z : r ≡ role.Value = cc in
    let v : IsUse G (undef 2 3) 0 x r = subst (λ p. IsUse G (undef 2 3) p x r) s
    (used_at G value_as_type 2 k x r (undef 2 3) refl w) in
    let p = use_same G (undef 2 3) 0 x 2 r role.OfType v (undef_use G) in
    let l : role.Value ≡ role.OfType = sym z ∙ p.role in
    cc

pub other_role : (G : Table) → ¬ (by_roles.IsEvidence G value_as_type Y1 2 (Miscast 0 role.Value 1))
other_role G e = other_role_by G Y1 2 (Miscast 0 role.Value 1) e refl refl
