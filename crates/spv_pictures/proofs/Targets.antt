-- The edges of a terminator lead to the ids that it uses as labels.
use Rattle.std.proofs.Common.{◌≡◌, ◌++◌, ◌∙◌, ◌⊎◌, inl, inr, ◌+◌, ◌*◌, ◌↔◌, ℕ, zero, suc, Bool, true, false, List, []}
use Rattle.std.proofs.Common.{◌∷◌, Some, IsTrue, nat_eq, refl, ap, arith}
use Rattle.std.specs.Prelude.{◌&&◌, ◌||◌, codes, decimal, nat_le, slice_get, if◌then◌else◌}
use Rattle.std.specs.List.{list_any}
use Rattle.std.proofs.lemmas.Bool.Decides.{nat_tests}
use Rattle.spv_module.specs.declared.opcode.TheConstants.{BRANCH, BRANCH_CONDITIONAL, SWITCH}
use Rattle.spv_module.specs.Operand.{Plain, OfType, Result, Id, Word, Number, Text, Value, Mask, Argument, Mention}
use Rattle.spv_module.specs.Operand.{PlainInst}
use Rattle.spv_table.specs.Table.{Table}
use Rattle.spv_layout.specs.declared.form.Form.{Form}
use Rattle.spv_layout.specs.declared.form.Form.TheVariants as form
use Rattle.spv_layout.specs.declared.form.Role.{Role}
use Rattle.spv_layout.specs.declared.form.Role.TheVariants as role
use Rattle.spv_layout.specs.Row.{PlainRow, RowEnding, closed, repeated}
use Rattle.spv_layout.specs.Rows.{row_of, rows}
use Rattle.spv_layout.specs.Shape.{AreOf, Ends, FitsShape, HasForms, IsUse, id_of, is_of, role_of}
use Rattle.spv_pictures.specs.Blocks.{Edge, branch_edges, case_edges, conditional_edges, edge_to, edges_of}
use Rattle.spv_pictures.specs.Blocks.{switch_edges}

-- an operand of a form is a use of the id as a label
record LabelAt (fs : List Form) (os : List Plain) (x : ℕ) : Type 0 where
  k : ℕ
  form : Form
  operand : Plain
  form_at : slice_get fs k ≡ Some form
  operand_at : slice_get os k ≡ Some operand
  as_label : role_of form operand ≡ Some role.Label
  id : id_of operand ≡ Some x

first_label : (fs : List Form) (os : List Plain) (x : ℕ) → LabelAt (form.Id role.Label ∷ fs) (Id x ∷ os) x
first_label fs os x =
    record {
      k = 0;
      form = form.Id role.Label;
      operand = Id x;
      form_at = refl;
      operand_at = refl;
      as_label = refl;
      id = refl;
    }

later_label : (f : Form) (o : Plain) (fs : List Form) (os : List Plain) (x : ℕ) → LabelAt fs os x
    → LabelAt (f ∷ fs) (o ∷ os) x
later_label f o fs os x h =
    record {
      k = suc h.k;
      form = h.form;
      operand = h.operand;
      form_at = h.form_at;
      operand_at = h.operand_at;
      as_label = h.as_label;
      id = h.id;
    }

-- it is the first one, or a later one
record IsFirst (f : Form) (o : Plain) (x : ℕ) : Type 0 where
  as_label : role_of f o ≡ Some role.Label
  id : id_of o ≡ Some x

either : (f : Form) (o : Plain) (fs : List Form) (os : List Plain) (x : ℕ) → LabelAt (f ∷ fs) (o ∷ os) x
    → IsFirst f o x ⊎ LabelAt fs os x
either f o fs os x h = by h.k h.form_at h.operand_at
  where
    by : (k : ℕ) → slice_get (f ∷ fs) k ≡ Some h.form → slice_get (o ∷ os) k ≡ Some h.operand
        → IsFirst f o x ⊎ LabelAt fs os x
    by zero e g =
        (let p : f ≡ h.form = cc in
        let q : o ≡ h.operand = cc in
        let r = h.as_label in
        let i = h.id in
        inl (record { as_label = rw (p, q) r; id = rw q i }))
    by (suc k) e g = inr (record {
      k = k;
      form = h.form;
      operand = h.operand;
      form_at = e;
      operand_at = g;
      as_label = h.as_label;
      id = h.id;
    })

no_label : (os : List Plain) (x : ℕ) → LabelAt [] os x → ⊥
no_label os x h = by h.k h.form_at
  where
    by : (k : ℕ) → slice_get {X = Form} [] k ≡ Some h.form → ⊥
    by zero e = cc
    by (suc k) e = cc

-- an id, and a number
record AnId (o : Plain) : Type 0 where
  x : ℕ
  is : o ≡ Id x

an_id : (G : Table) (r : Role) (o : Plain) → IsTrue (is_of G (form.Id r) o) → AnId o
an_id G r (OfType x) h = cc
an_id G r (Result x) h = cc
an_id G r (Id x) h = record { x = x; is = refl }
an_id G r (Word x) h = cc
an_id G r (Argument x) h = cc
an_id G r (Mention x) h = cc
an_id G r (Number low high words) h = cc
an_id G r (Text t) h = cc
an_id G r (Value k x) h = cc
an_id G r (Mask k x) h = cc

record ANumber (o : Plain) : Type 0 where
  low : ℕ
  high : ℕ
  words : ℕ
  is : o ≡ Number low high words

a_number : (G : Table) (o : Plain) → IsTrue (is_of G form.Number o) → ANumber o
a_number G (OfType x) h = cc
a_number G (Result x) h = cc
a_number G (Id x) h = cc
a_number G (Word x) h = cc
a_number G (Argument x) h = cc
a_number G (Mention x) h = cc
a_number G (Number low high words) h = record { low = low; high = high; words = words; is = refl }
a_number G (Text t) h = cc
a_number G (Value k x) h = cc
a_number G (Mask k x) h = cc

-- operands of at least one form
record Split (G : Table) (f : Form) (fs : List Form) (os : List Plain) : Type 0 where
  o : Plain
  ps : List Plain
  is : os ≡ o ∷ ps
  one : IsTrue (is_of G f o)
  rest : AreOf G fs ps

split : (G : Table) (f : Form) (fs gs : List Form) (os : List Plain) → gs ≡ f ∷ fs → AreOf G gs os → Split G f fs os
split G f fs _ _ e AreOf.none = cc
split G f fs _ _ e (AreOf.more g o gs os t m) =
    let p : g ≡ f = cc in
    let q : gs ≡ fs = cc in
    record { o = o; ps = os; is = refl; one = rw p at t; rest = rw q at m }

abbrev Leads : List Edge → ℕ → Type 0
Leads es x = list_any (λ (e : Edge). nat_eq e.to x) es ≡ true

same : (a b : ℕ) → nat_eq a b ≡ true → a ≡ b
same a b h = grind (arith, nat_tests)

itself : (a : ℕ) → nat_eq a a ≡ true
itself a = grind (arith, nat_tests)

leads_first : (y : ℕ) (w : List ℕ) (es : List Edge) (x : ℕ) → y ≡ x → Leads (edge_to y w ∷ es) x
leads_first y w es x e = let i = itself x in rw (e, i) refl

leads_later : (y : ℕ) (w : List ℕ) (es : List Edge) (x : ℕ) → Leads es x → Leads (edge_to y w ∷ es) x
leads_later y w es x h = rw h (by (nat_eq y x))
  where
    by : (b : Bool) → (b || true) ≡ true
    by true = refl
    by false = refl

leads_either : (y : ℕ) (w : List ℕ) (es : List Edge) (x : ℕ) → Leads (edge_to y w ∷ es) x → (y ≡ x) ⊎ Leads es x
leads_either y w es x h = by (nat_eq y x) refl h
  where
    by : (b : Bool) → nat_eq y x ≡ b → (b || list_any (λ (e : Edge). nat_eq e.to x) es) ≡ true → (y ≡ x) ⊎ Leads es x
    by true e g = inl (same y x e)
    by false e g = inr g

-- both ways, of one list of forms
record Agree (fs : List Form) (os : List Plain) (es : List Edge) (x : ℕ) : Type 0 where
  there : Leads es x → LabelAt fs os x
  back : LabelAt fs os x → Leads es x

agree_nil : (os : List Plain) (x : ℕ) → Agree [] os [] x
agree_nil os x = record { there = λ h. cc; back = λ h. absurd (no_label os x h) }

agree_label : (y : ℕ) (w : List ℕ) (fs : List Form) (os : List Plain) (es : List Edge) (x : ℕ) → Agree fs os es x
    → Agree (form.Id role.Label ∷ fs) (Id y ∷ os) (edge_to y w ∷ es) x
agree_label y w fs os es x a = record {
  there = λ h. there (leads_either y w es x h);
  back = λ h. back (either (form.Id role.Label) (Id y) fs os x h);
}
  where
    there : (y ≡ x) ⊎ Leads es x → LabelAt (form.Id role.Label ∷ fs) (Id y ∷ os) x
    there (inl e) = rw e (first_label fs os x)
    there (inr h) = later_label (form.Id role.Label) (Id y) fs os x (a.there h)

    back : IsFirst (form.Id role.Label) (Id y) x ⊎ LabelAt fs os x → Leads (edge_to y w ∷ es) x
    back (inl h) = (let i = h.id in let e : y ≡ x = cc in leads_first y w es x e)
    back (inr h) = leads_later y w es x (a.back h)

-- a form that is no label adds no edge
agree_other : (f : Form) (o : Plain) (fs : List Form) (os : List Plain) (es : List Edge) (x : ℕ)
    → (role_of f o ≡ Some role.Label → ⊥) → Agree fs os es x → Agree (f ∷ fs) (o ∷ os) es x
agree_other f o fs os es x n a =
    record { there = λ h. later_label f o fs os x (a.there h); back = λ h. back (either f o fs os x h) }
  where
    back : IsFirst f o x ⊎ LabelAt fs os x → Leads es x
    back (inl h) = absurd (n h.as_label)
    back (inr h) = a.back h

-- what comes after the labels of an OpBranchConditional
only_words : (G : Table) (e : RowEnding) (fs : List Form) (os : List Plain) (x : ℕ) → e ≡ repeated (form.Word ∷ [])
    → Ends e fs → AreOf G fs os → Agree fs os [] x
only_words G _ _ os x q Ends.nothing m = agree_nil os x
only_words G _ _ os x q (Ends.absent f) m = agree_nil os x
only_words G _ _ os x q (Ends.present f) m = cc
only_words G _ _ os x q Ends.no_file_or_text m = agree_nil os x
only_words G _ _ os x q Ends.file m = cc
only_words G _ _ os x q Ends.text m = cc
only_words G _ _ os x q Ends.both m = cc
only_words G _ _ os x q (Ends.done fs) m = agree_nil os x
only_words G _ _ os x q (Ends.again fs gs more) m =
    let p : fs ≡ form.Word ∷ [] = cc in
    let s = split G form.Word gs (fs ++ gs) os (ap (λ z. z ++ gs) p) m in
    let a = agree_other form.Word s.o gs s.ps [] x (λ e. cc) (only_words G (repeated fs) gs s.ps x q more s.rest) in
    rw (p, s.is) a
only_words G _ _ os x q Ends.no_other m = agree_nil os x
only_words G _ _ os x q (Ends.other gs more) m = cc
only_words G _ _ os x q (Ends.no_kind f) m = agree_nil os x
only_words G _ _ os x q (Ends.kind f gs more) m = cc
only_words G _ _ os x q (Ends.no_first f g) m = agree_nil os x
only_words G _ _ os x q (Ends.first f g gs more) m = cc

-- the cases of an OpSwitch
cases : (G : Table) (e : RowEnding) (fs : List Form) (os : List Plain) (x : ℕ)
    → e ≡ repeated (form.Number ∷ form.Id role.Label ∷ []) → Ends e fs → AreOf G fs os → Agree fs os (case_edges os) x
cases G _ _ os x q Ends.nothing m = cc
cases G _ _ os x q (Ends.absent f) m = cc
cases G _ _ os x q (Ends.present f) m = cc
cases G _ _ os x q Ends.no_file_or_text m = cc
cases G _ _ os x q Ends.file m = cc
cases G _ _ os x q Ends.text m = cc
cases G _ _ os x q Ends.both m = cc
cases G _ _ os x q (Ends.done fs) m = none os m
  where
    none : (os : List Plain) → AreOf G [] os → Agree [] os (case_edges os) x
    none _ AreOf.none = agree_nil [] x
cases G _ _ os x q (Ends.again fs gs more) m =
    let p : fs ≡ form.Number ∷ form.Id role.Label ∷ [] = cc in
    let s = split G form.Number (form.Id role.Label ∷ gs) (fs ++ gs) os (ap (λ z. z ++ gs) p) m in
    let t = split G (form.Id role.Label) gs (form.Id role.Label ∷ gs) s.ps refl s.rest in
    let n = a_number G s.o s.one in
    let i = an_id G role.Label t.o t.one in
    let later = cases G (repeated fs) gs t.ps x q more t.rest in
    let a = agree_label i.x (decimal (n.low + 4294967296 * n.high)) gs t.ps (case_edges t.ps) x later in
    let b = agree_other form.Number (Number n.low n.high n.words) (form.Id role.Label ∷ gs) (Id i.x ∷ t.ps)
    (edge_to i.x (decimal (n.low + 4294967296 * n.high)) ∷ case_edges t.ps) x (λ e. cc) a in
    rw (p, s.is, t.is, n.is, i.is) b
cases G _ _ os x q Ends.no_other m = cc
cases G _ _ os x q (Ends.other gs more) m = cc
cases G _ _ os x q (Ends.no_kind f) m = cc
cases G _ _ os x q (Ends.kind f gs more) m = cc
cases G _ _ os x q (Ends.no_first f g) m = cc
cases G _ _ os x q (Ends.first f g gs more) m = cc

closed_end : (e : RowEnding) (fs : List Form) → e ≡ closed → Ends e fs → fs ≡ []
closed_end _ _ q Ends.nothing = refl
closed_end _ _ q (Ends.absent f) = refl
closed_end _ _ q (Ends.present f) = cc
closed_end _ _ q Ends.no_file_or_text = refl
closed_end _ _ q Ends.file = cc
closed_end _ _ q Ends.text = cc
closed_end _ _ q Ends.both = cc
closed_end _ _ q (Ends.done fs) = refl
closed_end _ _ q (Ends.again fs gs more) = cc
closed_end _ _ q Ends.no_other = refl
closed_end _ _ q (Ends.other gs more) = cc
closed_end _ _ q (Ends.no_kind f) = refl
closed_end _ _ q (Ends.kind f gs more) = cc
closed_end _ _ q (Ends.no_first f g) = refl
closed_end _ _ q (Ends.first f g gs more) = cc

-- the rows of the three
row_branch : row_of BRANCH ≡ Some (record {
  from = 249;
  to = 249;
  profile = Rattle.spv_module.specs.declared.profile.Profile.TheVariants.Own;
  class = Rattle.spv_layout.specs.declared.class.Class.TheVariants.Branch;
  fixed = form.Id role.Label ∷ [];
  ending =
      closed;
})
unfolding rows
row_branch = refl

row_conditional : row_of BRANCH_CONDITIONAL ≡ Some
    (record {
      from = 250;
      to = 250;
      profile = Rattle.spv_module.specs.declared.profile.Profile.TheVariants.Own;
      class = Rattle.spv_layout.specs.declared.class.Class.TheVariants.BranchConditional;
      fixed = form.Id role.Value ∷ form.Id role.Label ∷ form.Id role.Label ∷ [];
      ending = repeated (form.Word ∷ []);
    })
unfolding rows
row_conditional = refl

row_switch : row_of SWITCH ≡ Some (record {
  from = 251;
  to = 251;
  profile = Rattle.spv_module.specs.declared.profile.Profile.TheVariants.Own;
  class = Rattle.spv_layout.specs.declared.class.Class.TheVariants.Switch;
  fixed =
      form.Id role.Value ∷ form.Id role.Label ∷ [];
  ending = repeated (form.Number ∷ form.Id role.Label ∷ []);
})
unfolding rows
row_switch = refl

-- the forms of an instruction, by its row
record ByRow (G : Table) (fixed : List Form) (e : RowEnding) (fs : List Form) (os : List Plain) : Type 0 where
  rest : List Form
  forms : fs ≡ fixed ++ rest
  ending : Ends e rest
  each : AreOf G (fixed ++ rest) os

by_row : (G : Table) (i : PlainInst) (fs : List Form) (r : PlainRow) → row_of i.opcode ≡ Some r → HasForms G i fs
    → ByRow G r.fixed r.ending fs i.operands
by_row G i fs r e h =
    let k = h.known in
    let q : h.row ≡ r = cc in
    let f = h.forms in
    let n = h.ending in
    let a = h.each in
    record { rest = h.rest; forms = rw q at f; ending = rw q at n; each = rw (f, q) at a }

branch_agrees : (G : Table) (fs : List Form) (os : List Plain) (x : ℕ) → ByRow G (form.Id role.Label ∷ []) closed fs os
    → Agree fs os (branch_edges os) x
branch_agrees G fs os x h =
    let s = split G (form.Id role.Label) h.rest (form.Id role.Label ∷ h.rest) os refl h.each in
    let i = an_id G role.Label s.o s.one in
    let n = closed_end closed h.rest refl h.ending in
    let a = agree_label i.x [] [] s.ps [] x (agree_nil s.ps x) in
    rw (h.forms, n, s.is, i.is) a

conditional_agrees : (G : Table) (fs : List Form) (os : List Plain) (x : ℕ)
    → ByRow G (form.Id role.Value ∷ form.Id role.Label ∷ form.Id role.Label ∷ []) (repeated (form.Word ∷ [])) fs os
    → Agree fs os (conditional_edges os) x
conditional_agrees G fs os x h =
    let s = split G (form.Id role.Value) (form.Id role.Label ∷ form.Id role.Label ∷ h.rest)
    (form.Id role.Value ∷ form.Id role.Label ∷ form.Id role.Label ∷ h.rest) os refl h.each in
    let t = split G (form.Id role.Label) (form.Id role.Label ∷ h.rest)
    (form.Id role.Label ∷ form.Id role.Label ∷ h.rest) s.ps refl s.rest in
    let u = split G (form.Id role.Label) h.rest (form.Id role.Label ∷ h.rest) t.ps refl t.rest in
    let i = an_id G role.Value s.o s.one in
    let j = an_id G role.Label t.o t.one in
    let k = an_id G role.Label u.o u.one in
    let a = only_words G (repeated (form.Word ∷ [])) h.rest u.ps x refl h.ending u.rest in
    let b = agree_label k.x (codes "false") h.rest u.ps [] x a in
    let c = agree_label j.x (codes "true") (form.Id role.Label ∷ h.rest) (Id k.x ∷ u.ps)
    (edge_to k.x (codes "false") ∷ []) x b in
    let d = agree_other (form.Id role.Value) (Id i.x) (form.Id role.Label ∷ form.Id role.Label ∷ h.rest)
    (Id j.x ∷ Id k.x ∷ u.ps) (edge_to j.x (codes "true") ∷ edge_to k.x (codes "false") ∷ []) x (λ e. cc) c in
    rw (h.forms, s.is, t.is, u.is, i.is, j.is, k.is) d

switch_agrees : (G : Table) (fs : List Form) (os : List Plain) (x : ℕ)
    → ByRow G (form.Id role.Value ∷ form.Id role.Label ∷ []) (repeated (form.Number ∷ form.Id role.Label ∷ [])) fs os
    → Agree fs os (switch_edges os) x
switch_agrees G fs os x h =
    let s = split G (form.Id role.Value) (form.Id role.Label ∷ h.rest)
    (form.Id role.Value ∷ form.Id role.Label ∷ h.rest) os refl h.each in
    let t = split G (form.Id role.Label) h.rest (form.Id role.Label ∷ h.rest) s.ps refl s.rest in
    let i = an_id G role.Value s.o s.one in
    let j = an_id G role.Label t.o t.one in
    let a = cases G (repeated (form.Number ∷ form.Id role.Label ∷ [])) h.rest t.ps x refl h.ending t.rest in
    let b = agree_label j.x (codes "default") h.rest t.ps (case_edges t.ps) x a in
    let c = agree_other (form.Id role.Value) (Id i.x) (form.Id role.Label ∷ h.rest) (Id j.x ∷ t.ps)
    (edge_to j.x (codes "default") ∷ case_edges t.ps) x (λ e. cc) b in
    rw (h.forms, s.is, t.is, i.is, j.is) c

agrees : (G : Table) (i : PlainInst) (fs : List Form) (x : ℕ)
    → IsTrue (nat_le BRANCH i.opcode && nat_le i.opcode SWITCH) → HasForms G i fs → Agree fs i.operands (edges_of i) x
agrees G i fs x t h =
    by (nat_eq i.opcode BRANCH) (nat_eq i.opcode BRANCH_CONDITIONAL) (nat_eq i.opcode SWITCH) refl refl refl
  where
    out : (c : ℕ) → nat_eq c BRANCH ≡ false → nat_eq c BRANCH_CONDITIONAL ≡ false → nat_eq c SWITCH ≡ false
        → IsTrue (nat_le BRANCH c && nat_le c SWITCH) → ⊥
    out c a b d g = grind (arith, nat_tests)

    by : (a b c : Bool) → nat_eq i.opcode BRANCH ≡ a → nat_eq i.opcode BRANCH_CONDITIONAL ≡ b
        → nat_eq i.opcode SWITCH ≡ c
        → Agree fs i.operands (if a then branch_edges i.operands
        else (if b then conditional_edges i.operands else (if c then switch_edges i.operands else []))) x
    by true b c e f g = branch_agrees G fs i.operands x
        (by_row G i fs _ (ap row_of (same i.opcode BRANCH e) ∙ row_branch) h)
    by false true c e f g =
        conditional_agrees G fs i.operands x
        (by_row G i fs _ (ap row_of (same i.opcode BRANCH_CONDITIONAL f) ∙ row_conditional) h)
    by false false true e f g =
        switch_agrees G fs i.operands x (by_row G i fs _ (ap row_of (same i.opcode SWITCH g) ∙ row_switch) h)
    by false false false e f g = absurd (out i.opcode e f g t)

-- an edge leads to an id exactly where an operand uses it as a label
pub targets : (G : Table) (i : PlainInst) (x : ℕ) → FitsShape G i
    → IsTrue (nat_le BRANCH i.opcode && nat_le i.opcode SWITCH)
    → IsTrue (list_any (λ (e : Edge). nat_eq e.to x) (edges_of i)) ↔ ((k : ℕ) × IsUse G i k x role.Label)
targets G i x s t = (there, back)
  where
    there : IsTrue (list_any (λ (e : Edge). nat_eq e.to x) (edges_of i)) → (k : ℕ) × IsUse G i k x role.Label
    there h =
        (let l = (agrees G i s.forms x t s.has).there h in (
          l.k,
          record {
            forms = s.forms;
            has = s.has;
            form = l.form;
            operand = l.operand;
            form_at = l.form_at;
            operand_at = l.operand_at;
            role = l.as_label;
            id = l.id;
          },
        ))

    back : ((k : ℕ) × IsUse G i k x role.Label) → IsTrue (list_any (λ (e : Edge). nat_eq e.to x) (edges_of i))
    back (k, u) = (agrees G i u.forms x t u.has).back
        (record {
          k = k;
          form = u.form;
          operand = u.operand;
          form_at = u.form_at;
          operand_at = u.operand_at;
          as_label = u.role;
          id = u.id;
        })
