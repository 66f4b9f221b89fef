-- An OpExtInst before %7, whose operand behind its number is %7: as a value that it takes, as an id that it names, or
-- as one that is not looked at.
use Rattle.std.proofs.Common.{◌≡◌, ◌⊎◌, inl, inr, ℕ, zero, suc, List, [], ◌∷◌, Some, None, refl, sym, true, arith}
use Rattle.std.specs.Prelude.{slice_get}
use Rattle.std.proofs.lemmas.Option.{same_Some}
use Rattle.spv_module.specs.declared.opcode.TheConstants as opcode
use Rattle.spv_module.specs.Example.{small}
use Rattle.spv_module.specs.Operand.{Plain, OfType, Result, Id, Word, Argument, Mention}
use Rattle.spv_layout.specs.declared.class.Class.TheVariants.{Extended}
use Rattle.spv_layout.specs.declared.form.Form.{Form}
use Rattle.spv_layout.specs.declared.form.Form.TheVariants as form
use Rattle.spv_layout.specs.declared.form.Role.{Role}
use Rattle.spv_layout.specs.declared.form.Role.TheVariants as role
use Rattle.spv_layout.specs.Row.{repeated}
use Rattle.spv_layout.specs.inner.Row.{row, T, R, W}
use Rattle.spv_layout.specs.Rows.{rows}
use Rattle.spv_layout.specs.Shape.{is_of, role_of, id_of, AreOf, Ends, HasForms, IsUse}
use Rattle.spv_layout.specs.Layout.{classes}
use Rattle.spv_layout.proofs.Shapes.{forms_same}
use Rattle.spv_ids.specs.Definition.{IsDefinedAt}
use Rattle.spv_flow.specs.branches.Ready.{IsMissing}
use Rattle.spv_flow.specs.branches.Example.{function, label, negation, extended, extended_early}
use Rattle.spv_flow.proofs.lemmas.branches.Labelled.{use_in}
use Rattle.spv_flow.proofs.lemmas.branches.Worked.{IsInside, laid_early, missed_by}

abbrev extended_forms : List Form
extended_forms = T ∷ R ∷ form.Id role.Set ∷ W ∷ form.Unseen ∷ []

abbrev extended_operands : Plain → List Plain
extended_operands o = OfType 20 ∷ Result 6 ∷ Id 3 ∷ Word 5 ∷ o ∷ []

extended_each : (o : Plain) → is_of small form.Unseen o ≡ true → AreOf small extended_forms (extended_operands o)
extended_each o h =
    AreOf.more T (OfType 20) (R ∷ form.Id role.Set ∷ W ∷ form.Unseen ∷ []) (Result 6 ∷ Id 3 ∷ Word 5 ∷ o ∷ []) refl
    (AreOf.more R (Result 6) (form.Id role.Set ∷ W ∷ form.Unseen ∷ []) (Id 3 ∷ Word 5 ∷ o ∷ []) refl
    (AreOf.more (form.Id role.Set) (Id 3) (W ∷ form.Unseen ∷ []) (Word 5 ∷ o ∷ []) refl
    (AreOf.more W (Word 5) (form.Unseen ∷ []) (o ∷ []) refl
    (AreOf.more form.Unseen o [] [] h AreOf.none))))

has_extended_forms : (o : Plain) → is_of small form.Unseen o ≡ true → HasForms small (extended o) extended_forms
unfolding rows
has_extended_forms o h = record {
  row = row opcode.EXT_INST opcode.EXT_INST Extended (T ∷ R ∷ form.Id role.Set ∷ W ∷ []) (repeated (form.Unseen ∷ []));
  rest = form.Unseen ∷ [];
  known = refl;
  forms = refl;
  ending = Ends.again (form.Unseen ∷ []) [] (Ends.done (form.Unseen ∷ []));
  each = extended_each o h;
}

extended_classes : (o : Plain) → classes (extended_early o) ≡ laid_early Extended
unfolding rows
extended_classes o = refl

extended_inside : IsInside Extended
extended_inside = record { begun = refl; ended = refl }

-- as a value that it takes, it is used

argument_used : IsUse small (extended (Argument 7)) 4 7 role.Value
argument_used = record {
  forms = extended_forms;
  has = has_extended_forms (Argument 7) refl;
  form = form.Unseen;
  operand = Argument 7;
  form_at = refl;
  operand_at = refl;
  role = refl;
  id = refl;
}

pub argument_missed : IsMissing small (extended_early (Argument 7)) 2
argument_missed = missed_by (extended (Argument 7)) Extended 4 extended_inside (extended_classes (Argument 7))
    (λ t. let e = t in cc) argument_used

-- else its type and its set are all that it uses

used_by : (o p : Plain) (k x : ℕ) (f : Form) (r : Role) → role_of form.Unseen o ≡ None
    → slice_get extended_forms k ≡ Some f → slice_get (extended_operands o) k ≡ Some p → role_of f p ≡ Some r
    → id_of p ≡ Some x → (x ≡ 20) ⊎ (x ≡ 3)
used_by o p zero x f r n a b c d = let e : OfType 20 ≡ p = cc in let s = rw (← e) at d in inl (sym (same_Some 20 x s))
used_by o p (suc zero) x f r n a b c d = let e : R ≡ f = cc in let s : None ≡ Some r = rw (← e) at c in cc
used_by o p (suc (suc zero)) x f r n a b c d = let e : Id 3 ≡ p = cc in let s = rw (← e) at d in
    inr (sym (same_Some 3 x s))
used_by o p (suc (suc (suc zero))) x f r n a b c d = let e : W ≡ f = cc in let s : None ≡ Some r = rw (← e) at c in cc
used_by o p (suc (suc (suc (suc zero)))) x f r n a b c d = let e : form.Unseen ≡ f = cc in let g : o ≡ p = cc in
    let s = rw (← e, ← g) at c in cc
used_by o p (suc (suc (suc (suc (suc k))))) x f r n a b c d = cc

used_only : (o : Plain) (k x : ℕ) (r : Role) → is_of small form.Unseen o ≡ true → role_of form.Unseen o ≡ None
    → IsUse small (extended o) k x r → (x ≡ 20) ⊎ (x ≡ 3)
used_only o k x r h n u =
    let e = forms_same small (extended o) u.forms extended_forms u.has (has_extended_forms o h) in
    let f : slice_get extended_forms k ≡ Some u.form = rw e at u.form_at in
    used_by o u.operand k x u.form r n f u.operand_at u.role u.id

-- which nothing defines

undefined : (o : Plain) (m x : ℕ) → (x ≡ 20) ⊎ (x ≡ 3) → ¬ (IsDefinedAt (extended_early o) x m)
undefined o zero x s d = let t = d.there in let e : function ≡ d.inst = cc in let r = rw (← e) at d.result in cc
undefined o (suc zero) x s d =
    let t = d.there in
    let e : label 1 ≡ d.inst = cc in
    let k = same_Some 1 x (rw (← e) at d.result) in
    elim s [ inl a ↦ omega (arith, k, a) | inr a ↦ omega (arith, k, a) ]
undefined o (suc (suc zero)) x s d =
    let t = d.there in
    let e : extended o ≡ d.inst = cc in
    let k = same_Some 6 x (rw (← e) at d.result) in
    elim s [ inl a ↦ omega (arith, k, a) | inr a ↦ omega (arith, k, a) ]
undefined o (suc (suc (suc zero))) x s d =
    let t = d.there in
    let e : negation 7 6 ≡ d.inst = cc in
    let k = same_Some 7 x (rw (← e) at d.result) in
    elim s [ inl a ↦ omega (arith, k, a) | inr a ↦ omega (arith, k, a) ]
undefined o (suc (suc (suc (suc m)))) x s d = let t = d.there in cc

not_missed : (o : Plain) → is_of small form.Unseen o ≡ true → role_of form.Unseen o ≡ None
    → ¬ (IsMissing small (extended_early o) 2)
not_missed o h n m =
    let u = use_in small (extended_early o) 2 m.operand m.id m.role (extended o) refl m.used in
    undefined o m.local.place m.id (used_only o m.operand m.id m.role h n u) m.local.defined

pub mention_not_missed : ¬ (IsMissing small (extended_early (Mention 7)) 2)
mention_not_missed = not_missed (Mention 7) refl refl

pub id_not_missed : ¬ (IsMissing small (extended_early (Id 7)) 2)
id_not_missed = not_missed (Id 7) refl refl
