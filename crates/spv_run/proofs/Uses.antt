-- The values, targets and pairs that a run reads are uses in their roles.
use Rattle.std.proofs.Common.{◌≡◌, ◌≢◌, ◌∙◌, ◌+◌, ◌++◌, ◌⊎◌, inl, inr, ℕ, zero, suc, List, [], ◌∷◌, map, true, nat_eq}
use Rattle.std.proofs.Common.{if◌then◌else◌, Some, None, refl, sym, ap, subst, arith, Contains}
use Rattle.std.specs.Prelude.{slice_get}
use Rattle.std.proofs.lemmas.Bool.{cases_Bool, eq-eqb, eqb-true}
use Rattle.std.proofs.lemmas.Option.{none-some, same_Some}
use Rattle.spv_table.specs.Table.{Table}
use Rattle.spv_module.specs.Operand.{Plain, PlainInst}
use Rattle.spv_module.specs.Operand as operand
use Rattle.spv_module.specs.declared.opcode.TheConstants as the_opcode
use Rattle.spv_layout.specs.declared.form.Form.{Form}
use Rattle.spv_layout.specs.declared.form.Form.TheVariants as form
use Rattle.spv_layout.specs.declared.form.Role.{Role}
use Rattle.spv_layout.specs.declared.form.Role.TheVariants as role
use Rattle.spv_layout.specs.Row.{PlainRow, repeated}
use Rattle.spv_layout.specs.inner.Row.{v, l, f, T, R, N}
use Rattle.spv_layout.specs.Rows.{row_of}
use Rattle.spv_layout.specs.Shape.{is_of, AreOf, Ends, FitsShape, role_of, id_of, IsUse}
use Rattle.spv_ids.specs.Definition.{IsUsedAt}
use Rattle.spv_ops.specs.declared.table.Places.TheVariants as places
use Rattle.spv_ops.specs.Table.{places_of}
use Rattle.spv_ops.specs.Values.{values_of as rows_values_of}
use Rattle.spv_ops.proofs.Judged.{free_or}
use Rattle.spv_ops.proofs.ValuePlaces.{values_agree}
use Rattle.spv_run.specs.Row.{values_of}
use Rattle.spv_type_kinds.specs.Operands.{ids_in}
use Rattle.spv_type_forms.specs.Values.{used_in}
use Rattle.spv_run.specs.Act.{Act, Pair, Phi, act_of, pairs, labels_in}
use Rattle.spv_run.specs.At.{value_from}
use Rattle.spv_run.specs.inner.At.{targets}
use Rattle.spv_run.proofs.Shapes.{take, none, led, View, view, row_57, row_245, row_249, row_250, row_251, row_254}

-- Some operand of a form is an id in the role.
pub data HasUse (r : Role) (x : ℕ) : List Form → List Plain → Type 0 where
  here : (fs : List Form) (os : List Plain) → HasUse r x (form.Id r ∷ fs) (operand.Id x ∷ os)
  there : (g : Form) (o : Plain) (fs : List Form) (os : List Plain) → HasUse r x fs os → HasUse r x (g ∷ fs) (o ∷ os)

record Placed (r : Role) (x : ℕ) (fs : List Form) (os : List Plain) : Type 0 where
  pub place : ℕ
  pub form_at : slice_get fs place ≡ Some (form.Id r)
  pub operand_at : slice_get os place ≡ Some (operand.Id x)

placed : (r : Role) (x : ℕ) (fs : List Form) (os : List Plain) → HasUse r x fs os → Placed r x fs os
placed r x _ _ (HasUse.here fs os) = record { place = 0; form_at = refl; operand_at = refl }
placed r x _ _ (HasUse.there g o fs os u) = let p = placed r x fs os u in
    record { place = suc p.place; form_at = p.form_at; operand_at = p.operand_at }

pub use_by : (G : Table) (is : List PlainInst) (n : ℕ) (i : PlainInst) (r : Role) (x : ℕ) → slice_get is n ≡ Some i
    → (h : FitsShape G i) → HasUse r x h.forms i.operands → (k : ℕ) × IsUsedAt G is n k x r
use_by G is n i r x at h u =
    let p = placed r x h.forms i.operands u in (
      p.place,
      record {
        inst = i;
        there = at;
        used = record {
          forms = h.forms;
          has = h.has;
          form = form.Id r;
          operand = operand.Id x;
          form_at = p.form_at;
          operand_at = p.operand_at;
          role = refl;
          id = refl;
        };
      },
    )

-- the forms of an instruction whose opcode has the row
pub record Forms (G : Table) (r : PlainRow) (fs : List Form) : Type 0 where
  pub rest : List Form
  pub ending : Ends r.ending rest
  pub same : fs ≡ r.fixed ++ rest

pub forms_of : (G : Table) (i : PlainInst) (r : PlainRow) → (h : FitsShape G i) → row_of i.opcode ≡ Some r
    → Forms G r h.forms
forms_of G i r h e =
    let s = h.has in
    let same : s.row ≡ r = let both : Some s.row ≡ Some r = sym s.known ∙ e in cc in
    record {
      rest = s.rest;
      ending = rw (← same) s.ending;
      same = s.forms
          ∙ ap (λ (x : PlainRow). x.fixed ++ s.rest) same;
    }

use_moved : (r : Role) (x : ℕ) (fs gs : List Form) (os ps : List Plain) → fs ≡ gs → os ≡ ps → HasUse r x gs ps
    → HasUse r x fs os
use_moved r x fs gs os ps e h u = rw (e, h) u

none_among : (x : ℕ) (xs : List ℕ) → Contains [] x → ⊥
none_among x xs (k, l, e) = omega (arith, l)

among_cons : (x y : ℕ) (ys : List ℕ) → Contains (y ∷ ys) x → (y ≡ x) ⊎ Contains ys x
among_cons x y ys (zero, l, e) = inl e
among_cons x y ys (suc k, l, e) = inr (k, omega (arith, l), e)

-- Values.

ids_use : (G : Table) (gs : List Form) (os : List Plain) (x : ℕ) → Ends (repeated (v ∷ [])) gs → AreOf G gs os
    → Contains (ids_in os) x → HasUse role.Value x gs os
ids_use G _ os x (Ends.done _) a c = let e = none G os a in absurd (none_among x [] (rw e at c))
ids_use G _ os x (Ends.again _ gs en) a c =
    let p = led G role.Value gs os a in
    let c' : Contains (p.id ∷ ids_in p.tail) x = rw p.same at c in
    use_moved role.Value x (v ∷ gs) (v ∷ gs) os (operand.Id p.id ∷ p.tail) refl p.same
    (elim (among_cons x p.id (ids_in p.tail) c') [
      | inl e ↦ subst (λ y. HasUse role.Value x (v ∷ gs) (operand.Id y ∷ p.tail)) (sym e) (HasUse.here gs p.tail)
      | inr d ↦ HasUse.there v (operand.Id p.id) gs p.tail (ids_use G gs p.tail x en p.rest d)
    ])

pairs_use : (G : Table) (gs : List Form) (os : List Plain) (x : ℕ) → Ends (repeated (v ∷ l ∷ [])) gs → AreOf G gs os
    → Contains (map (λ (p : Pair). p.value) (pairs os)) x → HasUse role.Value x gs os
pairs_use G _ os x (Ends.done _) a c = let e = none G os a in absurd (none_among x [] (rw e at c))
pairs_use G _ os x (Ends.again _ gs en) a c =
    let p = led G role.Value (l ∷ gs) os a in
    let q = led G role.Label gs p.tail p.rest in
    let same : os ≡ operand.Id p.id ∷ operand.Id q.id ∷ q.tail = p.same ∙ ap (λ ps. operand.Id p.id ∷ ps) q.same in
    let c' : Contains (p.id ∷ map (λ (p : Pair). p.value) (pairs q.tail)) x = rw same at c in
    use_moved role.Value x (v ∷ l ∷ gs) (v ∷ l ∷ gs) os (operand.Id p.id ∷ operand.Id q.id ∷ q.tail) refl same
    (elim (among_cons x p.id (map (λ (p : Pair). p.value) (pairs q.tail)) c') [
      | inl e ↦ subst (λ y. HasUse role.Value x (v ∷ l ∷ gs) (operand.Id y ∷ operand.Id q.id ∷ q.tail)) (sym e)
          (HasUse.here (l ∷ gs) (operand.Id q.id ∷ q.tail))
      | inr d ↦ HasUse.there v (operand.Id p.id) (l ∷ gs) (operand.Id q.id ∷ q.tail)
          (HasUse.there l (operand.Id q.id) gs q.tail (pairs_use G gs q.tail x en q.rest d))
    ])

among_one : (x y : ℕ) → Contains (y ∷ []) x → y ≡ x
among_one x y c = elim (among_cons x y [] c) [ inl e ↦ e | inr d ↦ absurd (none_among x [] d) ]

-- the ids that forms use as values
pub used_use : (fs : List Form) (os : List Plain) (x : ℕ) → Contains (used_in fs os) x → HasUse role.Value x fs os
used_use [] os x c = absurd (none_among x [] c)
used_use (g ∷ fs) [] x c = absurd (none_among x [] c)
used_use (form.Id role.Value ∷ fs) (operand.Id y ∷ os) x c = elim (among_cons x y (used_in fs os) c) [
  | inl e ↦ subst (λ z. HasUse role.Value x (form.Id role.Value ∷ fs) (operand.Id z ∷ os)) (sym e) (HasUse.here fs os)
  | inr d ↦ HasUse.there (form.Id role.Value) (operand.Id y) fs os (used_use fs os x d)
]
used_use (g ∷ fs) (o ∷ os) x c = HasUse.there g o fs os (used_use fs os x c)

-- Targets.

cases_use : (G : Table) (gs : List Form) (os : List Plain) (x : ℕ) → Ends (repeated (N ∷ l ∷ [])) gs → AreOf G gs os
    → Contains (labels_in os) x → HasUse role.Label x gs os
cases_use G _ os x (Ends.done _) a c = let e = none G os a in absurd (none_among x [] (rw e at c))
cases_use G _ os x (Ends.again _ gs en) a c =
    let p = take G N (l ∷ gs) os a in
    let number = a_number p.head p.fits in
    let q = led G role.Label gs p.tail p.rest in
    let same : os ≡ operand.Number number.0 number.1 number.2 ∷ operand.Id q.id ∷ q.tail = p.same
    ∙ (ap (λ o. o ∷ p.tail) number.3 ∙ ap (λ ps. operand.Number number.0 number.1 number.2 ∷ ps) q.same) in
    let c' : Contains (q.id ∷ labels_in q.tail) x = rw same at c in
    use_moved role.Label x (N ∷ l ∷ gs) (N ∷ l ∷ gs) os
    (operand.Number number.0 number.1 number.2 ∷ operand.Id q.id ∷ q.tail) refl same
    (HasUse.there N (operand.Number number.0 number.1 number.2) (l ∷ gs) (operand.Id q.id ∷ q.tail)
    (elim (among_cons x q.id (labels_in q.tail) c') [
      | inl e ↦ subst (λ y. HasUse role.Label x (l ∷ gs) (operand.Id y ∷ q.tail)) (sym e) (HasUse.here gs q.tail)
      | inr d ↦ HasUse.there l (operand.Id q.id) gs q.tail (cases_use G gs q.tail x en q.rest d)
    ]))
  where
    a_number : (o : Plain) → is_of G form.Number o ≡ true → (a b w : ℕ) × (o ≡ operand.Number a b w)
    a_number (operand.Number a b w) h = (a, b, w, refl)
    a_number _ h = cc

row_at : (i : PlainInst) (n : ℕ) (r : PlainRow) → i.opcode ≡ n → row_of n ≡ Some r → row_of i.opcode ≡ Some r
row_at i n r e h = ap row_of e ∙ h

same_forms : (G : Table) (fs gs hs : List Form) (os ps : List Plain) → fs ≡ gs → os ≡ ps → AreOf G fs os → AreOf G gs ps
same_forms G fs gs hs os ps e h a = rw (← e, ← h) a

-- what follows two, or three, operands is of the forms that follow
drop_two : (G : Table) (g h : Form) (gs : List Form) (o p : Plain) (os : List Plain) → AreOf G (g ∷ h ∷ gs) (o ∷ p ∷ os)
    → AreOf G gs os
drop_two G g h gs o p os (AreOf.more _ _ _ _ i (AreOf.more _ _ _ _ j a)) = a

drop_three : (G : Table) (g h k : Form) (gs : List Form) (o p q : Plain) (os : List Plain)
    → AreOf G (g ∷ h ∷ k ∷ gs) (o ∷ p ∷ q ∷ os) → AreOf G gs os
drop_three G g h k gs o p q os (AreOf.more _ _ _ _ i (AreOf.more _ _ _ _ j (AreOf.more _ _ _ _ m a))) = a

target_view : (G : Table) (i : PlainInst) (a : Act) (x : ℕ) → (h : FitsShape G i) → View G i a → Contains (targets a) x
    → HasUse role.Label x h.forms i.operands
target_view G i _ x h (View.branch y e same) c =
    let fs = forms_of G i _ h (row_at i 249 _ e row_249) in
    use_moved role.Label x h.forms (l ∷ fs.rest) i.operands (operand.Id y ∷ []) fs.same same
    (subst (λ z. HasUse role.Label x (l ∷ fs.rest) (operand.Id z ∷ [])) (sym (among_one x y c))
    (HasUse.here fs.rest []))
target_view G i _ x h (View.condition s y z os gs e same en each) c =
    let fs = forms_of G i _ h (row_at i 250 _ e row_250) in
    use_moved role.Label x h.forms (v ∷ l ∷ l ∷ fs.rest) i.operands
    (operand.Id s ∷ operand.Id y ∷ operand.Id z ∷ os) fs.same same
    (HasUse.there v (operand.Id s) (l ∷ l ∷ fs.rest) (operand.Id y ∷ operand.Id z ∷ os)
    (elim (among_cons x y (z ∷ []) c) [
      | inl q ↦ subst (λ w. HasUse role.Label x (l ∷ l ∷ fs.rest) (operand.Id w ∷ operand.Id z ∷ os)) (sym q)
          (HasUse.here (l ∷ fs.rest) (operand.Id z ∷ os))
      | inr d ↦ HasUse.there l (operand.Id y) (l ∷ fs.rest) (operand.Id z ∷ os)
          (subst (λ w. HasUse role.Label x (l ∷ fs.rest) (operand.Id w ∷ os)) (sym (among_one x z d))
          (HasUse.here fs.rest os))
    ]))
target_view G i _ x h (View.switch s y os gs e same en each) c =
    let fs = forms_of G i _ h (row_at i 251 _ e row_251) in
    let rest : AreOf G fs.rest os = drop_two G v l fs.rest (operand.Id s) (operand.Id y) os
    (same_forms G h.forms (v ∷ l ∷ fs.rest) [] i.operands
    (operand.Id s ∷ operand.Id y ∷ os) fs.same same h.has.each) in
    use_moved role.Label x h.forms (v ∷ l ∷ fs.rest) i.operands (operand.Id s ∷ operand.Id y ∷ os) fs.same same
    (HasUse.there v (operand.Id s) (l ∷ fs.rest) (operand.Id y ∷ os) (elim (among_cons x y (labels_in os) c) [
      | inl q ↦ subst (λ w. HasUse role.Label x (l ∷ fs.rest) (operand.Id w ∷ os)) (sym q) (HasUse.here fs.rest os)
      | inr d ↦ HasUse.there l (operand.Id y) fs.rest os (cases_use G fs.rest os x fs.ending rest d)
    ]))
target_view G i _ x h (View.function a b k' m s e os) c = absurd (none_among x [] c)
target_view G i _ x h (View.parameter t b e os) c = absurd (none_among x [] c)
target_view G i _ x h (View.function_end e os) c = absurd (none_among x [] c)
target_view G i _ x h (View.call a b d os gs e same en each) c = absurd (none_among x [] c)
target_view G i _ x h (View.phi a b os gs e same en each) c = absurd (none_among x [] c)
target_view G i _ x h (View.label b e os) c = absurd (none_among x [] c)
target_view G i _ x h (View.return e os) c = absurd (none_among x [] c)
target_view G i _ x h (View.value y e os) c = absurd (none_among x [] c)
target_view G i _ x h (View.unreachable e os) c = absurd (none_among x [] c)
target_view G i _ x h (View.other e) c = absurd (none_among x [] c)

-- a target is a use as a label
pub target_use : (G : Table) (is : List PlainInst) (n : ℕ) (i : PlainInst) (x : ℕ) → slice_get is n ≡ Some i
    → FitsShape G i → Contains (targets (act_of i)) x → (k : ℕ) × IsUsedAt G is n k x role.Label
target_use G is n i x at h c = use_by G is n i role.Label x at h (target_view G i (act_of i) x h (view G i h) c)

-- The values of phis, calls and returns.

pub record PhiForms (G : Table) (i : PlainInst) (h : FitsShape G i) (ps : List Pair) : Type 0 where
  pub of_type : ℕ
  pub result : ℕ
  pub tail : List Plain
  pub rest : List Form
  pub opcode : i.opcode ≡ the_opcode.PHI
  pub operands : i.operands ≡ operand.OfType of_type ∷ operand.Result result ∷ tail
  pub forms : h.forms ≡ T ∷ R ∷ rest
  pub ending : Ends (repeated (v ∷ l ∷ [])) rest
  pub each : AreOf G rest tail
  pub pairs_are : ps ≡ pairs tail

phi_forms_view : (G : Table) (i : PlainInst) (a : Act) (ps : List Pair) → (h : FitsShape G i) → View G i a → a ≡ Phi ps
    → PhiForms G i h ps
phi_forms_view G i _ ps h (View.phi t b os gs e same en each) q =
    let fs = forms_of G i _ h (row_at i 245 _ e row_245) in
    record {
      of_type = t;
      result = b;
      tail = os;
      rest = fs.rest;
      opcode = e;
      operands = same;
      forms = fs.same;
      ending = fs.ending;
      each = drop_two G T R fs.rest (operand.OfType t) (operand.Result b) os
          (same_forms G h.forms (T ∷ R ∷ fs.rest) [] i.operands
          (operand.OfType t ∷ operand.Result b ∷ os) fs.same same h.has.each);
      pairs_are = cc;
    }
phi_forms_view G i _ ps h _ q = cc

pub phi_forms : (G : Table) (i : PlainInst) (ps : List Pair) → (h : FitsShape G i) → act_of i ≡ Phi ps
    → PhiForms G i h ps
phi_forms G i ps h e = phi_forms_view G i (act_of i) ps h (view G i h) e

-- a value and its label, in the first pair with the label
record Paired (G : Table) (gs : List Form) (os : List Plain) (y w : ℕ) : Type 0 where
  pub place : ℕ
  pub value_form : slice_get gs place ≡ Some v
  pub value_at : slice_get os place ≡ Some (operand.Id w)
  pub label_form : slice_get gs (suc place) ≡ Some l
  pub label_at : slice_get os (suc place) ≡ Some (operand.Id y)

paired : (G : Table) (gs : List Form) (os : List Plain) (y w : ℕ) → Ends (repeated (v ∷ l ∷ [])) gs → AreOf G gs os
    → value_from (pairs os) y ≡ Some w → Paired G gs os y w
paired G _ os y w (Ends.done _) a h = let e = none G os a in let h' : None ≡ Some w = rw e at h in
    absurd (none-some w h')
paired G _ os y w (Ends.again _ gs en) a h =
    let p = led G role.Value (l ∷ gs) os a in
    let q = led G role.Label gs p.tail p.rest in
    let same : os ≡ operand.Id p.id ∷ operand.Id q.id ∷ q.tail = p.same ∙ ap (λ ps. operand.Id p.id ∷ ps) q.same in
    let h' : (if nat_eq q.id y then Some p.id else value_from (pairs q.tail) y) ≡ Some w = rw same at h in
    subst (λ ps. Paired G (v ∷ l ∷ gs) ps y w) (sym same) (elim (cases_Bool (nat_eq q.id y)) [
      | inl e ↦ (
          let one : Some p.id ≡ Some w = rw e at h' in
          let z : q.id ≡ y = eqb-true q.id y e in
          record {
            place = 0;
            value_form = refl;
            value_at = ap (λ k. Some (operand.Id k)) (same_Some p.id w one);
            label_form = refl;
            label_at = ap (λ k. Some (operand.Id k)) z;
          })
      | inr e ↦ (
          let rest : value_from (pairs q.tail) y ≡ Some w = rw e at h' in
          let r = paired G gs q.tail y w en q.rest rest in
          record {
            place = suc (suc r.place);
            value_form = r.value_form;
            value_at = r.value_at;
            label_form = r.label_form;
            label_at = r.label_at;
          })
    ])

-- the pair of a phi, as uses
pub record PairUses (G : Table) (is : List PlainInst) (n y w : ℕ) : Type 0 where
  pub operand : ℕ
  pub value : IsUsedAt G is n operand w role.Value
  pub label : IsUsedAt G is n (operand + 1) y role.Label

pub pair_uses : (G : Table) (is : List PlainInst) (n : ℕ) (i : PlainInst) (ps : List Pair) (y w : ℕ)
    → slice_get is n ≡ Some i → FitsShape G i → act_of i ≡ Phi ps → value_from ps y ≡ Some w → PairUses G is n y w
pair_uses G is n i ps y w at h k e =
    let p = phi_forms G i ps h k in
    let e' : value_from (pairs p.tail) y ≡ Some w = ap (λ qs. value_from qs y) (sym p.pairs_are) ∙ e in
    let q = paired G p.rest p.tail y w p.ending p.each e' in
    let plus : suc (suc (suc q.place)) ≡ suc (suc q.place) + 1 = omega arith in
    record {
      operand = suc (suc q.place);
      value = record {
        inst = i;
        there = at;
        used = record {
          forms = h.forms;
          has = h.has;
          form = v;
          operand = operand.Id w;
          form_at = ap (λ gs. slice_get gs (suc (suc q.place))) p.forms ∙ q.value_form;
          operand_at = ap (λ os. slice_get os (suc (suc q.place))) p.operands ∙ q.value_at;
          role = refl;
          id = refl;
        };
      };
      label = subst (λ m. IsUsedAt G is n m y role.Label) plus (record {
        inst = i;
        there = at;
        used = record {
          forms = h.forms;
          has = h.has;
          form = l;
          operand = operand.Id y;
          form_at = ap (λ gs. slice_get gs (suc (suc (suc q.place)))) p.forms ∙ q.label_form;
          operand_at = ap (λ os. slice_get os (suc (suc (suc q.place)))) p.operands ∙ q.label_at;
          role = refl;
          id = refl;
        };
      });
    }

-- a label that a phi uses is that of a pair
label_paired : (G : Table) (gs : List Form) (os : List Plain) (y k : ℕ) (g : Form) (o : Plain)
    → Ends (repeated (v ∷ l ∷ [])) gs → AreOf G gs os
    → slice_get gs k ≡ Some g → slice_get os k ≡ Some o → role_of g o ≡ Some role.Label → id_of o ≡ Some y
    → value_from (pairs os) y ≢ None
label_paired G _ os y k g o (Ends.done _) a f u r d = absurd (none-some g f)
label_paired G _ os y zero g o (Ends.again _ gs en) a f u r d = let e : g ≡ v = cc in
    let r' : Some role.Value ≡ Some role.Label = rw e at r in cc
label_paired G _ os y (suc zero) g o (Ends.again _ gs en) a f u r d =
    let p = led G role.Value (l ∷ gs) os a in
    let q = led G role.Label gs p.tail p.rest in
    let same : os ≡ operand.Id p.id ∷ operand.Id q.id ∷ q.tail = p.same ∙ ap (λ ps. operand.Id p.id ∷ ps) q.same in
    let u' : Some (operand.Id q.id) ≡ Some o = rw same at u in
    let o' : operand.Id q.id ≡ o = same_Some (operand.Id q.id) o u' in
    let z : Some q.id ≡ Some y = ap id_of o' ∙ d in
    let one : nat_eq q.id y ≡ true = eq-eqb q.id y (same_Some q.id y z) in
    λ none. (let w : Some p.id ≡ None = rw (same, one) at none in none-some p.id (sym w))
label_paired G _ os y (suc (suc k)) g o (Ends.again _ gs en) a f u r d =
    let p = led G role.Value (l ∷ gs) os a in
    let q = led G role.Label gs p.tail p.rest in
    let same : os ≡ operand.Id p.id ∷ operand.Id q.id ∷ q.tail = p.same ∙ ap (λ ps. operand.Id p.id ∷ ps) q.same in
    let u' : slice_get q.tail k ≡ Some o = rw same at u in
    let later = label_paired G gs q.tail y k g o en q.rest f u' r d in
    λ none. elim (cases_Bool (nat_eq q.id y)) [
      | inl e ↦ (let w : Some p.id ≡ None = rw (same, e) at none in none-some p.id (sym w))
      | inr e ↦ (let w : value_from (pairs q.tail) y ≡ None = rw (same, e) at none in later w)
    ]

pub parent_paired : (G : Table) (is : List PlainInst) (n : ℕ) (i : PlainInst) (ps : List Pair) (k y : ℕ)
    → slice_get is n ≡ Some i → FitsShape G i → act_of i ≡ Phi ps → IsUsedAt G is n k y role.Label
    → value_from ps y ≢ None
parent_paired G is n i ps k y at h e used =
    let inst : used.inst ≡ i = let both : Some used.inst ≡ Some i = sym used.there ∙ at in cc in
    let u = subst (λ (j : PlainInst). IsUse G j k y role.Label) inst used.used in
    let p = phi_forms G i ps (record { forms = u.forms; has = u.has }) e in
    label_at p.rest p.tail p k u.form u.operand p.ending p.each (ap (λ gs. slice_get gs k) (sym p.forms) ∙ u.form_at)
    (ap (λ os. slice_get os k) (sym p.operands) ∙ u.operand_at) u.role u.id where
      label_at : {h : FitsShape G i} (gs : List Form) (os : List Plain) → (p : PhiForms G i h ps)
          → (k : ℕ) (g : Form) (o : Plain) → Ends (repeated (v ∷ l ∷ [])) p.rest → AreOf G p.rest p.tail
          → slice_get (T ∷ R ∷ p.rest) k ≡ Some g
          → slice_get (operand.OfType p.of_type ∷ operand.Result p.result ∷ p.tail) k ≡ Some o
          → role_of g o ≡ Some role.Label → id_of o ≡ Some y → value_from ps y ≢ None
      label_at gs os p zero g o en a f u r d = let e : g ≡ T = cc in
          let r' : Some role.OfType ≡ Some role.Label = rw e at r in cc
      label_at gs os p (suc zero) g o en a f u r d = let e : g ≡ R = cc in
          let r' : None ≡ Some role.Label = rw e at r in cc
      label_at gs os p (suc (suc k)) g o en a f u r d =
          λ none. label_paired G p.rest p.tail y k g o en a f u r d
          (ap (λ qs. value_from qs y) (sym p.pairs_are) ∙ none)

-- a phi uses no id in the role any
rounds_any : (gs : List Form) (o : Plain) (k : ℕ) (g : Form) → Ends (repeated (v ∷ l ∷ [])) gs → slice_get gs k ≡ Some g
    → role_of g o ≡ Some role.Any → ⊥
rounds_any _ o k g (Ends.done _) f r = none-some g f
rounds_any _ o zero g (Ends.again _ gs en) f r = let e : g ≡ v = cc in
    let r' : Some role.Value ≡ Some role.Any = rw e at r in cc
rounds_any _ o (suc zero) g (Ends.again _ gs en) f r = let e : g ≡ l = cc in
    let r' : Some role.Label ≡ Some role.Any = rw e at r in cc
rounds_any _ o (suc (suc k)) g (Ends.again _ gs en) f r = rounds_any gs o k g en f r

any_at : (gs : List Form) (o : Plain) (k : ℕ) (g : Form) → Ends (repeated (v ∷ l ∷ [])) gs
    → slice_get (T ∷ R ∷ gs) k ≡ Some g → role_of g o ≡ Some role.Any → ⊥
any_at gs o zero g en f r = let e : g ≡ T = cc in let r' : Some role.OfType ≡ Some role.Any = rw e at r in cc
any_at gs o (suc zero) g en f r = let e : g ≡ R = cc in let r' : None ≡ Some role.Any = rw e at r in cc
any_at gs o (suc (suc k)) g en f r = rounds_any gs o k g en f r

pub no_any : (G : Table) (i : PlainInst) (ps : List Pair) (k x : ℕ) → act_of i ≡ Phi ps → ¬ (IsUse G i k x role.Any)
no_any G i ps k x e u =
    let p = phi_forms G i ps (record { forms = u.forms; has = u.has }) e in
    any_at p.rest u.operand k u.form p.ending (ap (λ gs. slice_get gs k) (sym p.forms) ∙ u.form_at) u.role

-- Values.

free_values : (i : PlainInst) → places_of i.opcode ≡ places.Free → rows_values_of i ≡ []
free_values i e = rw e refl

other_use : (G : Table) (i : PlainInst) (x : ℕ) → (h : FitsShape G i) → Contains (rows_values_of i) x
    → HasUse role.Value x h.forms i.operands
other_use G i x h c = elim (free_or (places_of i.opcode)) [
  | inl e ↦ (let c' : Contains [] x = subst (λ xs. Contains xs x) (free_values i e) c in absurd (none_among x [] c'))
  | inr ne ↦ used_use h.forms i.operands x (subst (λ xs. Contains xs x) (sym (values_agree G i h.forms h.has ne)) c)
]

value_view : (G : Table) (i : PlainInst) (a : Act) (x : ℕ) → (h : FitsShape G i) → View G i a
    → Contains (values_of i a) x → HasUse role.Value x h.forms i.operands
value_view G i _ x h (View.call a b d os gs e same en each) c =
    let fs = forms_of G i _ h (row_at i 57 _ e row_57) in
    let rest : AreOf G fs.rest os = drop_three G T R f fs.rest (operand.OfType a) (operand.Result b) (operand.Id d) os
    (same_forms G h.forms (T ∷ R ∷ f ∷ fs.rest) [] i.operands
    (operand.OfType a ∷ operand.Result b ∷ operand.Id d ∷ os) fs.same same h.has.each) in
    use_moved role.Value x h.forms (T ∷ R ∷ f ∷ fs.rest) i.operands
    (operand.OfType a ∷ operand.Result b ∷ operand.Id d ∷ os) fs.same same
    (HasUse.there T (operand.OfType a) (R ∷ f ∷ fs.rest) (operand.Result b ∷ operand.Id d ∷ os)
    (HasUse.there R (operand.Result b) (f ∷ fs.rest) (operand.Id d ∷ os)
    (HasUse.there f (operand.Id d) fs.rest os (ids_use G fs.rest os x fs.ending rest c))))
value_view G i _ x h (View.phi a b os gs e same en each) c =
    let fs = forms_of G i _ h (row_at i 245 _ e row_245) in
    let rest : AreOf G fs.rest os = drop_two G T R fs.rest (operand.OfType a) (operand.Result b) os
    (same_forms G h.forms (T ∷ R ∷ fs.rest) [] i.operands
    (operand.OfType a ∷ operand.Result b ∷ os) fs.same same h.has.each) in
    use_moved role.Value x h.forms (T ∷ R ∷ fs.rest) i.operands (operand.OfType a ∷ operand.Result b ∷ os) fs.same same
    (HasUse.there T (operand.OfType a) (R ∷ fs.rest) (operand.Result b ∷ os)
    (HasUse.there R (operand.Result b) fs.rest os (pairs_use G fs.rest os x fs.ending rest c)))
value_view G i _ x h (View.condition s y z os gs e same en each) c =
    let fs = forms_of G i _ h (row_at i 250 _ e row_250) in
    use_moved role.Value x h.forms (v ∷ l ∷ l ∷ fs.rest) i.operands
    (operand.Id s ∷ operand.Id y ∷ operand.Id z ∷ os) fs.same same
    (subst (λ w. HasUse role.Value x (v ∷ l ∷ l ∷ fs.rest) (operand.Id w ∷ operand.Id y ∷ operand.Id z ∷ os))
    (sym (among_one x s c)) (HasUse.here (l ∷ l ∷ fs.rest) (operand.Id y ∷ operand.Id z ∷ os)))
value_view G i _ x h (View.switch s y os gs e same en each) c =
    let fs = forms_of G i _ h (row_at i 251 _ e row_251) in
    use_moved role.Value x h.forms (v ∷ l ∷ fs.rest) i.operands (operand.Id s ∷ operand.Id y ∷ os) fs.same same
    (subst (λ w. HasUse role.Value x (v ∷ l ∷ fs.rest) (operand.Id w ∷ operand.Id y ∷ os)) (sym (among_one x s c))
    (HasUse.here (l ∷ fs.rest) (operand.Id y ∷ os)))
value_view G i _ x h (View.value y e same) c =
    let fs = forms_of G i _ h (row_at i 254 _ e row_254) in
    use_moved role.Value x h.forms (v ∷ fs.rest) i.operands (operand.Id y ∷ []) fs.same same
    (subst (λ w. HasUse role.Value x (v ∷ fs.rest) (operand.Id w ∷ [])) (sym (among_one x y c))
    (HasUse.here fs.rest []))
value_view G i _ x h (View.other e) c = other_use G i x h c
value_view G i _ x h (View.function a b k' m s e os) c = absurd (none_among x [] c)
value_view G i _ x h (View.parameter t b e os) c = absurd (none_among x [] c)
value_view G i _ x h (View.function_end e os) c = absurd (none_among x [] c)
value_view G i _ x h (View.label b e os) c = absurd (none_among x [] c)
value_view G i _ x h (View.branch y e same) c = absurd (none_among x [] c)
value_view G i _ x h (View.return e os) c = absurd (none_among x [] c)
value_view G i _ x h (View.unreachable e os) c = absurd (none_among x [] c)

-- a value is a use as one
pub value_use : (G : Table) (is : List PlainInst) (n : ℕ) (i : PlainInst) (x : ℕ) → slice_get is n ≡ Some i
    → FitsShape G i → Contains (values_of i (act_of i)) x → (k : ℕ) × IsUsedAt G is n k x role.Value
value_use G is n i x at h c = use_by G is n i role.Value x at h (value_view G i (act_of i) x h (view G i h) c)
