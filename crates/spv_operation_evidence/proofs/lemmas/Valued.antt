-- The value operands of an instruction, one by one.
use Rattle.std.proofs.Common.{◌≡◌, ◌∙◌, ◌<◌, ◌≤◌, ◌+◌, ◌++◌, inl, inr, ℕ, zero, suc, List, [], ◌∷◌, Option, Some, None}
use Rattle.std.proofs.Common.{true, false, refl, sym, ap, subst, length, map, drop, arith, option_and_then, option_map}
use Rattle.std.proofs.Common.{append_assoc}
use Rattle.std.specs.Prelude.{slice_get, option_to_list}
use Rattle.std.specs.List.{AllByRecursion}
use Rattle.std.proofs.lemmas.Option.{none-some}
use Rattle.std.proofs.lemmas.List.{drop_all, map-append, append-nil, length-append, length-map}
use Rattle.spv_table.specs.Table.{Table}
use Rattle.spv_module.specs.Operand.{Plain, PlainInst}
use Rattle.spv_module.specs.Operand as operand
use Rattle.spv_module.specs.Width.{type_of}
use Rattle.spv_module.specs.declared.fault.Rule.TheVariants.{Y5}
use Rattle.spv_layout.specs.declared.form.Form.{Form}
use Rattle.spv_layout.specs.declared.form.Form.TheVariants as form
use Rattle.spv_layout.specs.declared.form.Role.{Role}
use Rattle.spv_layout.specs.declared.form.Role.TheVariants as role
use Rattle.spv_layout.specs.Shape.{is_of, AreOf, HasForms, FitsShape, IsUse, IsRole, role_of}
use Rattle.spv_layout.proofs.Shapes.{forms_same, use_same}
use Rattle.spv_type_forms.specs.Parts.{id_in}
use Rattle.spv_type_kinds.specs.Operands.{result_type_in}
use Rattle.spv_ops.specs.Typed.{IsTyped}
use Rattle.spv_type_forms.specs.Values.{types_of, value_in, used_in}
use Rattle.spv_evidence.specs.declared.evidence.Evidence.TheVariants as evidence
use Rattle.spv_ops.specs.Table.{asks_of, conditions_of, places_of}
use Rattle.spv_conditions.specs.declared.asked.Asked.{Asked}
use Rattle.spv_conditions.specs.declared.asked.Asks.{Asks}
use Rattle.spv_readings.specs.declared.values.Value.{Value}
use Rattle.spv_readings.specs.Named.{IsDefinedBy}
use Rattle.spv_readings.specs.Values.{types_in}
use Rattle.spv_operation_evidence.specs.Beside.{condition_in, operand_in, wanted_in, found_in, read_in}
use Rattle.spv_conditions.specs.Condition.{FailsFirst}
use Rattle.spv_conditions.specs.Asks.{HoldsOf, conditions_in}
use Rattle.spv_conditions.specs.inner.Direct.{HoldsDirectly, are_direct}
use Rattle.spv_conditions.proofs.lemmas.Direct.{all_directly, fails_at_last, fails_of_line}
use Rattle.spv_ops.proofs.Copying.{copied_asks, copied_or, copy_line}
use Rattle.spv_ops.proofs.Rows.{direct}
use Rattle.spv_operation_evidence.specs.Evidence.{AreTyped, HoldsAt, Shows}
use Rattle.spv_operation_evidence.specs.inner.Values.{is_value, IsValueAt, IsTypeable, AreSoFar}

-- The form of an operand.
form_there : (G : Table) (fs : List Form) (os : List Plain) (k : ℕ) (o : Plain) → AreOf G fs os
    → slice_get os k ≡ Some o → (f : Form) × (slice_get fs k ≡ Some f) × (is_of G f o ≡ true)
form_there G _ _ k o AreOf.none h = cc
form_there G _ _ zero o (AreOf.more g p fs os i a) h = let e : p ≡ o = cc in (g, refl, rw (← e) i)
form_there G _ _ (suc k) o (AreOf.more g p fs os i a) h = form_there G fs os k o a h

item : (os : List Plain) (k : ℕ) → k < length os → (o : Plain) × (slice_get os k ≡ Some o)
item [] k l = absurd (omega (arith, l))
item (o ∷ os) zero l = (o, refl)
item (o ∷ os) (suc k) l = item os k (omega (arith, l))

-- a form and an operand with the value that they have
value_of : (f : Form) (o : Plain) → f ≡ form.Id role.Value → value_in f o ≡ option_to_list (id_in o)
value_of _ (operand.OfType x) e = rw e refl
value_of _ (operand.Result x) e = rw e refl
value_of _ (operand.Id x) e = rw e refl
value_of _ (operand.Word x) e = rw e refl
value_of _ (operand.Argument x) e = rw e refl
value_of _ (operand.Mention x) e = rw e refl
value_of _ (operand.Number a b w) e = rw e refl
value_of _ (operand.Text x) e = rw e refl
value_of _ (operand.Value a b) e = rw e refl
value_of _ (operand.Mask a b) e = rw e refl

-- an operand that is used as a value: an id of that role, or the argument of an extended instruction, of which no row
-- asks
role_value : (f : Form) (o : Plain) → role_of f o ≡ Some role.Value → value_in f o ≡ option_to_list (id_in o)
role_value form.OfType o e = cc
role_value form.Result o e = cc
role_value form.Word o e = cc
role_value form.Number o e = cc
role_value form.Text o e = cc
role_value (form.Id r) o e = value_of (form.Id r) o (let same : r ≡ role.Value = cc in ap form.Id same)
role_value form.Unseen (operand.Argument x) e = refl
role_value form.Unseen _ e = cc
role_value (form.Kind n) o e = cc
role_value form.Other (operand.Id x) e = cc
role_value form.Other _ e = cc

role_of_value : (r : Option Role) → is_value r ≡ true → r ≡ Some role.Value
role_of_value (Some role.Value) e = refl
role_of_value _ e = cc

-- where the role is that of a value
pub value_told : (G : Table) (i : PlainInst) (k : ℕ) (r : Option Role) (x : Option ℕ) → IsRole G i k r
    → is_value r ≡ true → x ≡ option_and_then id_in (slice_get i.operands k) → IsValueAt G i k x
value_told G i k r x told v e = λ fs has f o g at.
    let used : IsRole G i k (Some role.Value) = subst (IsRole G i k) (role_of_value r v) told in
    let u = used.1 in
    let same : u.forms ≡ fs = forms_same G i u.forms fs u.has has in
    let form_same : Some u.form ≡ Some f = sym u.form_at ∙ ap (λ (hs : List Form). slice_get hs k) same ∙ g in
    let is : f ≡ u.form = cc in
    let operand_same : Some o ≡ Some u.operand = sym at ∙ u.operand_at in
    let that : o ≡ u.operand = cc in
    let found : x ≡ id_in o = e ∙ ap (option_and_then id_in) at in
    let value : value_in f o ≡ option_to_list (id_in o) = rw (is, that) (role_value u.form u.operand u.role) in
    value ∙ ap option_to_list (sym found)

-- a use as a value
use_of : (G : Table) (i : PlainInst) (k x : ℕ) (fs : List Form) → HasForms G i fs
    → slice_get fs k ≡ Some (form.Id role.Value) → slice_get i.operands k ≡ Some (operand.Id x)
    → IsUse G i k x role.Value
use_of G i k x fs has g at =
    record {
      forms = fs;
      has = has;
      form = form.Id role.Value;
      operand = operand.Id x;
      form_at = g;
      operand_at = at;
      role = refl;
      id = refl;
    }

used_role : (G : Table) (i : PlainInst) (k x : ℕ) (r : Option Role) → IsRole G i k r → IsUse G i k x role.Value
    → is_value r ≡ true
used_role G i k x None told u = absurd (told x role.Value u)
used_role G i k x (Some q) told u = let same = use_same G i k told.0 x q role.Value told.1 u in
    let e : q ≡ role.Value = same.role in rw e refl

-- where it is not
pub no_value_told : (G : Table) (i : PlainInst) (k : ℕ) (r : Option Role) → IsRole G i k r → is_value r ≡ false
    → IsValueAt G i k None
no_value_told G i k r told v = λ fs has f o g at. by fs has f o g at where
  by : (fs : List Form) → HasForms G i fs → (f : Form) (o : Plain) → slice_get fs k ≡ Some f
      → slice_get i.operands k ≡ Some o → value_in f o ≡ []
  by fs has (form.Id role.Value) (operand.Id x) g at = let on = used_role G i k x r told (use_of G i k x fs has g at) in
      cc
  by fs has (form.Id role.Value) _ g at = refl
  by fs has _ o g at = refl

-- The values that are found so far, and those of the rest.

from_here : {A : Type 0} → (xs : List A) (n : ℕ) (x : A) → slice_get xs n ≡ Some x → drop n xs ≡ x ∷ drop (n + 1) xs
from_here [] n x e = absurd (none-some x e)
from_here (y ∷ ys) zero x e = ap (λ z. z ∷ ys) (let q : y ≡ x = cc in q)
from_here (y ∷ ys) (suc n) x e = let next : suc n + 1 ≡ suc (n + 1) = omega arith in rw next (from_here ys n x e)

next_used : (fs : List Form) (os : List Plain) (k : ℕ) (f : Form) (o : Plain) (done xs : List ℕ)
    → slice_get fs k ≡ Some f → slice_get os k ≡ Some o → value_in f o ≡ xs
    → done ++ used_in (drop k fs) (drop k os) ≡ used_in fs os
    → (done ++ xs) ++ used_in (drop (k + 1) fs) (drop (k + 1) os) ≡ used_in fs os
next_used fs os k f o done xs g h e all =
    let here : used_in (drop k fs) (drop k os) ≡ value_in f o ++ used_in (drop (k + 1) fs) (drop (k + 1) os) = (
    ap (λ (gs : List Form). used_in gs (drop k os)) (from_here fs k f g)
    ∙ ap (used_in (f ∷ drop (k + 1) fs)) (from_here os k o h)
    ) in
    let rest = used_in (drop (k + 1) fs) (drop (k + 1) os) in
    append_assoc done xs rest ∙ ap (λ ys. done ++ (ys ++ rest)) (sym e) ∙ ap (λ ys. done ++ ys) (sym here) ∙ all

types_push : (is : List PlainInst) (xs us : List ℕ) (x u : ℕ) → types_of is xs ≡ Some us → type_of is x ≡ Some u
    → types_of is (xs ++ (x ∷ [])) ≡ Some (us ++ (u ∷ []))
types_push is [] us x u e t = let none : [] ≡ us = cc in rw (← none, t) refl
types_push is (y ∷ xs) us x u e t =
    one (λ ts h. types_push is xs ts x u h t) (type_of is y) (types_of is xs) refl e where
      one : ((ts : List ℕ) → types_of is xs ≡ Some ts → types_of is (xs ++ (x ∷ [])) ≡ Some (ts ++ (u ∷ [])))
          → (o : Option ℕ) (os : Option (List ℕ)) → types_of is xs ≡ os
          → option_and_then (λ v. option_map (λ ts. v ∷ ts) os) o ≡ Some us
          → option_and_then (λ v. option_map (λ ts. v ∷ ts) (types_of is (xs ++ (x ∷ [])))) o ≡ Some (us ++ (u ∷ []))
      one rest None os a b = cc
      one rest (Some v) None a b = cc
      one rest (Some v) (Some ts) a b = let list : v ∷ ts ≡ us = cc in rw (← list, rest ts a) refl

-- the operand of a value
is_one : (f : Form) (o : Plain) (x : ℕ) → value_in f o ≡ x ∷ [] → (f ≡ form.Id role.Value) × (o ≡ operand.Id x)
is_one (form.Id role.Value) (operand.Id y) x e = let same : y ≡ x = cc in (refl, ap operand.Id same)
is_one (form.Id role.Value) _ x e = cc
is_one _ o x e = let none : [] ≡ x ∷ [] = e in cc

value_there : (H : Table) (is : List PlainInst) (i : PlainInst) (k x : ℕ) → IsTypeable H is i → k < length i.operands
    → ((G : Table) → FitsShape G i → IsValueAt G i k (Some x))
    → slice_get i.operands k ≡ Some (operand.Id x)
value_there H is i k x t l told =
    let o = item i.operands k l in
    let f = form_there H t.forms i.operands k o.0 t.has.each o.1 in
    let e = told H (record { forms = t.forms; has = t.has }) t.forms t.has f.0 o.0 f.1 o.1 in
    o.1 ∙ ap Some (is_one f.0 o.0 x e).1

all_push : (P : Value → Type 0) (vs : List Value) (v : Value) → AllByRecursion P vs → P v
    → AllByRecursion P (vs ++ (v ∷ []))
all_push P [] v h p = (p, tt)
all_push P (w ∷ vs) v h p = (h.0, all_push P vs v h.1 p)

pub one_more : (H : Table) (is : List PlainInst) (i : PlainInst) (k x u : ℕ) (vs : List Value) → IsTypeable H is i
    → k < length i.operands → ((G : Table) → FitsShape G i → IsValueAt G i k (Some x))
    → type_of is x ≡ Some u → AreSoFar is i k vs
    → AreSoFar is i (k + 1) (vs ++ (record { operand = k; id = x; of = u } ∷ []))
one_more H is i k x u vs t l told typed a =
    let v : Value = record { operand = k; id = x; of = u } in
    record {
      rest = λ G fs has.
          let o = item i.operands k l in
          let f = form_there G fs i.operands k o.0 has.each o.1 in
          let e = told G (record { forms = fs; has = has }) fs has f.0 o.0 f.1 o.1 in
          rw (map-append (λ (w : Value). w.id) vs (v ∷ []))
          (next_used fs i.operands k f.0 o.0 (map (λ (w : Value). w.id) vs) (x ∷ []) f.1 o.1 e (a.rest G fs has));
      types = rw (map-append (λ (w : Value). w.id) vs (v ∷ []), map-append (λ (w : Value). w.of) vs (v ∷ []))
          (types_push is (map (λ (w : Value). w.id) vs) (map (λ (w : Value). w.of) vs) x u a.types typed);
      few =
          let l = length-append vs (v ∷ []) in
          let m = a.few in
          omega arith;
      each = all_push (λ (w : Value). slice_get i.operands w.operand ≡ Some (operand.Id w.id)) vs v a.each
          (value_there H is i k x t l told);
    }

pub none_more : (is : List PlainInst) (i : PlainInst) (k : ℕ) (vs : List Value) → k < length i.operands
    → ((G : Table) → FitsShape G i → IsValueAt G i k None) → AreSoFar is i k vs → AreSoFar is i (k + 1) vs
none_more is i k vs l told a = record {
  rest = λ G fs has.
      let o = item i.operands k l in
      let f = form_there G fs i.operands k o.0 has.each o.1 in
      let e = told G (record { forms = fs; has = has }) fs has f.0 o.0 f.1 o.1 in
      let done = map (λ (w : Value). w.id) vs in
      let next = next_used fs i.operands k f.0 o.0 done [] f.1 o.1 e (a.rest G fs has) in
      subst (λ ys. ys ++ used_in (drop (k + 1) fs) (drop (k + 1) i.operands) ≡ used_in fs i.operands)
      (append-nil done) next;
  types = a.types;
  few = let m = a.few in omega arith;
  each = a.each;
}

no_more : (fs : List Form) (os : List Plain) → os ≡ [] → used_in fs os ≡ []
no_more [] os e = refl
no_more (f ∷ fs) [] e = refl
no_more (f ∷ fs) (o ∷ os) e = cc

pub all_typed : (is : List PlainInst) (i : PlainInst) (k : ℕ) (vs : List Value) → length i.operands ≤ k
    → AreSoFar is i k vs → (G : Table) → FitsShape G i → AreTyped G is i vs
all_typed is i k vs l a G fits =
    let done = map (λ (w : Value). w.id) vs in
    let none : used_in (drop k fits.forms) (drop k i.operands) ≡ [] = no_more (drop k fits.forms) (drop k i.operands)
    (drop_all k i.operands l) in
    let all : done ++ [] ≡ used_in fits.forms i.operands = subst (λ ys. done ++ ys ≡ used_in fits.forms i.operands) none
    (a.rest G fits.forms fits.has) in
    record {
      values = record { forms = fits.forms; has = fits.has; values = sym all ∙ append-nil done };
      types = a.types;
      each = a.each;
    }

-- a value has a type
pub value_typed : (G : Table) (is : List PlainInst) (i : PlainInst) (k x : ℕ) → IsTypeable G is i
    → k < length i.operands → ((H : Table) → FitsShape H i → IsValueAt H i k (Some x)) → type_of is x ≡ None → ⊥
value_typed G is i k x t l told none =
    let o = item i.operands k l in
    let f = form_there G t.forms i.operands k o.0 t.has.each o.1 in
    let e = told G (record { forms = t.forms; has = t.has }) t.forms t.has f.0 o.0 f.1 o.1 in
    let s = is_one f.0 o.0 x e in
    let u = t.each k x (f.1 ∙ ap Some s.0) (o.1 ∙ ap Some s.1) in
    let v = u.1 in
    cc

-- The conditions of the values.

pub all_break : (G : Table) (is : List PlainInst) (n : ℕ) (i : PlainInst) (r : Option ℕ) (vs : List Value) (ts : List ℕ)
    (line : List Asks) → r ≡ result_type_in i.operands → ts ≡ types_in vs → line ≡ asks_of i.opcode → AreTyped G is i vs
    → AllByRecursion (HoldsDirectly is n i r ts) (conditions_in line (length ts)) → IsTyped G is n i
all_break G is n i r vs ts line e f g a h =
    let held = all_directly is n i r ts (conditions_in line (length ts)) h in
    inr (map (λ (w : Value). w.id) vs, types_in vs, a.values, a.types, rw (e, f, g) at held)

-- the first condition that fails where it is looked at directly fails
first_fails : (is : List PlainInst) (n : ℕ) (i : PlainInst) (r : Option ℕ) (ts : List ℕ) (line : List Asks) (a : Asked)
    → line ≡ asks_of i.opcode → (AllByRecursion (HoldsOf is n i r ts) (conditions_in line (length ts)) → ⊥)
    → FailsFirst (HoldsDirectly is n i r ts) (conditions_in line (length ts)) a
    → FailsFirst (HoldsOf is n i r ts) (conditions_in line (length ts)) a
first_fails is n i r ts line a e never f = elim (copied_or (places_of i.opcode)) [
  | inl copied ↦
      let same : copy_line ≡ line = sym (copied_asks i.opcode copied) ∙ sym e in
      let P = λ (l : List Asks). FailsFirst (HoldsDirectly is n i r ts) (conditions_in l (length ts)) a in
      let none = subst (λ l. AllByRecursion (HoldsOf is n i r ts) (conditions_in l (length ts)) → ⊥) (sym same) never in
      subst (λ l. FailsFirst (HoldsOf is n i r ts) (conditions_in l (length ts)) a) same
      (fails_at_last is n i r ts _ _ a refl none (subst P (sym same) f))
  | inr u ↦ fails_of_line is n i r ts line (length ts) a (ap are_direct e ∙ direct i.opcode u) f
]

pub operation_shows : (G : Table) (is : List PlainInst) (n : ℕ) (i : PlainInst) (r : Option ℕ) (vs : List Value)
    (ts : List ℕ) (line : List Asks) (a : Asked) (m : Option ℕ)
    → r ≡ result_type_in i.operands → ts ≡ types_in vs → line ≡ asks_of i.opcode → AreTyped G is i vs
    → FailsFirst (HoldsDirectly is n i r ts) (conditions_in line (length ts)) a
    → IsDefinedBy is i (operand_in is i vs a) m → ¬ (IsTyped G is n i)
    → Shows G is n i Y5 (evidence.Condition (condition_in a) (operand_in is i vs a) m (wanted_in is i r ts a)
    (found_in is i r ts a) (read_in is i r ts a))
operation_shows G is n i r vs ts line a m e f g t direct_first by never =
    let all = λ (h : AllByRecursion (HoldsOf is n i r ts) (conditions_in line (length ts))).
    let typed : IsTyped G is n i =
    inr (map (λ (w : Value). w.id) vs, types_in vs, t.values, t.types, rw (e, f, g) at h) in never typed in
    let first = first_fails is n i r ts line a g all direct_first in
    let there : FailsFirst (HoldsAt is n i vs) (conditions_of i.opcode (length (types_in vs))) a = rw
    (e, f, g) at first in
    let at = subst (λ k. FailsFirst (HoldsAt is n i vs) (conditions_of i.opcode k) a)
    (length-map vs (λ (v : Value). v.of)) there in
    rw (e, f) (Shows.operation vs a m (λ free. never (inl free)) t at by)
