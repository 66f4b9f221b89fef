-- What an instruction that fits its row is to a run, and which operands it has.
use Rattle.std.proofs.Common.{◌≡◌, ◌++◌, append-nil, inl, inr, ℕ, List, [], ◌∷◌, Bool, true, false, not, ◌||◌, nat_eq}
use Rattle.std.proofs.Common.{if◌then◌else◌, Some, refl, sym, ap, subst, ◌∙◌}
use Rattle.std.proofs.lemmas.Bool.{cases_Bool, eqb-true}
use Rattle.spv_table.specs.Table.{Table}
use Rattle.spv_module.specs.Operand.{Plain, PlainInst}
use Rattle.spv_module.specs.Operand as operand
use Rattle.spv_module.specs.declared.opcode.TheConstants as opcode
use Rattle.spv_layout.specs.declared.class.Class.TheVariants as class
use Rattle.spv_layout.specs.declared.form.Form.{Form}
use Rattle.spv_layout.specs.declared.form.Form.TheVariants as form
use Rattle.spv_layout.specs.declared.form.Role.{Role}
use Rattle.spv_layout.specs.declared.form.Role.TheVariants as role
use Rattle.spv_layout.specs.declared.form.Named.TheVariants as kind_of
use Rattle.spv_layout.specs.Row.{PlainRow, closed, repeated}
use Rattle.spv_layout.specs.inner.Row.{row, v, l, f, t, kind, T, R, W, N}
use Rattle.spv_layout.specs.Rows.{rows, row_of}
use Rattle.spv_layout.specs.Shape.{is_of, AreOf, Ends, FitsShape}
use Rattle.spv_type_kinds.specs.Operands.{ids_in}
use Rattle.spv_run.specs.Act.{Act, Function, Parameter, FunctionEnd, Label, Phi, Branch, Choose, Call, Return}
use Rattle.spv_run.specs.Act.{ReturnValue, Other, act_of, pairs, labels_in, call_in, phi_in, branch_in, condition_in}
use Rattle.spv_run.specs.Act.{switch_in, value_in}
use Rattle.spv_run.specs.Act as act

-- the forms of an instruction whose opcode has the row
pub record Has (G : Table) (r : PlainRow) (os : List Plain) : Type 0 where
  pub rest : List Form
  pub ending : Ends r.ending rest
  pub each : AreOf G (r.fixed ++ rest) os

pub has_row : (G : Table) (i : PlainInst) (r : PlainRow) → FitsShape G i → row_of i.opcode ≡ Some r → Has G r i.operands
has_row G i r fits e =
    let h = fits.has in
    let same : h.row ≡ r = let both : Some h.row ≡ Some r = sym h.known ∙ e in cc in
    let forms = rw h.forms at h.each in
    record { rest = h.rest; ending = rw (← same) h.ending; each = rw (← same) forms }

-- the first operand, of a form, and the others
pub record Took (G : Table) (g : Form) (gs : List Form) (os : List Plain) : Type 0 where
  pub head : Plain
  pub tail : List Plain
  pub same : os ≡ head ∷ tail
  pub fits : is_of G g head ≡ true
  pub rest : AreOf G gs tail

pub take : (G : Table) (g : Form) (gs : List Form) (os : List Plain) → AreOf G (g ∷ gs) os → Took G g gs os
take G g gs [] a = elim a [ ]
take G g gs (o ∷ os) (AreOf.more _ _ _ _ i a) = record { head = o; tail = os; same = refl; fits = i; rest = a }

pub none : (G : Table) (os : List Plain) → AreOf G [] os → os ≡ []
none G [] a = refl
none G (o ∷ os) a = elim a [ ]

pub an_id : (G : Table) (r : Role) (o : Plain) → is_of G (form.Id r) o ≡ true → (x : ℕ) × (o ≡ operand.Id x)
an_id G r (operand.Id a) h = (a, refl)
an_id G r _ h = cc

pub a_type : (G : Table) (o : Plain) → is_of G form.OfType o ≡ true → (x : ℕ) × (o ≡ operand.OfType x)
a_type G (operand.OfType a) h = (a, refl)
a_type G _ h = cc

pub a_result : (G : Table) (o : Plain) → is_of G form.Result o ≡ true → (x : ℕ) × (o ≡ operand.Result x)
a_result G (operand.Result a) h = (a, refl)
a_result G _ h = cc

pub a_control : (G : Table) (o : Plain) → is_of G (form.Kind kind_of.FunctionControl) o ≡ true
    → (k m : ℕ) × (o ≡ operand.Mask k m)
a_control G (operand.Mask a b) h = (a, b, refl)
a_control G _ h = cc

-- Operands that begin with a type and a result.
pub record Headed (G : Table) (gs : List Form) (os : List Plain) : Type 0 where
  pub type_id : ℕ
  pub result : ℕ
  pub tail : List Plain
  pub same : os ≡ operand.OfType type_id ∷ operand.Result result ∷ tail
  pub rest : AreOf G gs tail

pub headed : (G : Table) (gs : List Form) (os : List Plain) → AreOf G (T ∷ R ∷ gs) os → Headed G gs os
headed G gs os a =
    let one = take G T (R ∷ gs) os a in
    let two = take G R gs one.tail one.rest in
    let p = a_type G one.head one.fits in
    let q = a_result G two.head two.fits in
    record {
      type_id = p.0;
      result = q.0;
      tail = two.tail;
      same = one.same ∙ (ap (λ o. o ∷ one.tail) p.1
          ∙ ap (λ os. operand.OfType p.0 ∷ os) (two.same ∙ ap (λ o. o ∷ two.tail) q.1));
      rest = two.rest;
    }

-- Operands that begin with an id.
pub record Led (G : Table) (gs : List Form) (os : List Plain) : Type 0 where
  pub id : ℕ
  pub tail : List Plain
  pub same : os ≡ operand.Id id ∷ tail
  pub rest : AreOf G gs tail

pub led : (G : Table) (r : Role) (gs : List Form) (os : List Plain) → AreOf G (form.Id r ∷ gs) os → Led G gs os
led G r gs os a =
    let one = take G (form.Id r) gs os a in
    let p = an_id G r one.head one.fits in
    record { id = p.0; tail = one.tail; same = one.same ∙ ap (λ o. o ∷ one.tail) p.1; rest = one.rest }

-- none of the opcodes that a run tells apart
abbrev pub is_other : ℕ → Bool
is_other n = not (nat_eq n 54 || nat_eq n 55 || nat_eq n 56 || nat_eq n 57 || nat_eq n 245 || nat_eq n 248
    || nat_eq n 249 || nat_eq n 250 || nat_eq n 251 || nat_eq n 253 || nat_eq n 254 || nat_eq n 255)

-- What an instruction is to a run, by its opcode and operands.
pub data View (G : Table) (i : PlainInst) : Act → Type 0 where
  function : (a b k m s : ℕ) → i.opcode ≡ opcode.FUNCTION
      → i.operands ≡ operand.OfType a ∷ operand.Result b ∷ operand.Mask k m ∷ operand.Id s ∷ [] → View G i Function
  parameter : (a b : ℕ) → i.opcode ≡ opcode.FUNCTION_PARAMETER → i.operands ≡ operand.OfType a ∷ operand.Result b ∷ []
      → View G i Parameter
  function_end : i.opcode ≡ opcode.FUNCTION_END → i.operands ≡ [] → View G i FunctionEnd
  call : (a b c : ℕ) (os : List Plain) (gs : List Form) → i.opcode ≡ opcode.FUNCTION_CALL
      → i.operands ≡ operand.OfType a ∷ operand.Result b ∷ operand.Id c ∷ os
      → Ends (repeated (v ∷ [])) gs → AreOf G gs os → View G i (Call c (ids_in os))
  phi : (a b : ℕ) (os : List Plain) (gs : List Form) → i.opcode ≡ opcode.PHI
      → i.operands ≡ operand.OfType a ∷ operand.Result b ∷ os
      → Ends (repeated (v ∷ l ∷ [])) gs → AreOf G gs os → View G i (Phi (pairs os))
  label : (b : ℕ) → i.opcode ≡ opcode.LABEL → i.operands ≡ operand.Result b ∷ [] → View G i Label
  branch : (x : ℕ) → i.opcode ≡ opcode.BRANCH → i.operands ≡ operand.Id x ∷ [] → View G i (Branch x)
  condition : (c x y : ℕ) (os : List Plain) (gs : List Form) → i.opcode ≡ opcode.BRANCH_CONDITIONAL
      → i.operands ≡ operand.Id c ∷ operand.Id x ∷ operand.Id y ∷ os
      → Ends (repeated (W ∷ [])) gs → AreOf G gs os → View G i (Choose c (x ∷ y ∷ []))
  switch : (c x : ℕ) (os : List Plain) (gs : List Form) → i.opcode ≡ opcode.SWITCH
      → i.operands ≡ operand.Id c ∷ operand.Id x ∷ os
      → Ends (repeated (N ∷ l ∷ [])) gs → AreOf G gs os → View G i (Choose c (x ∷ labels_in os))
  return : i.opcode ≡ opcode.RETURN → i.operands ≡ [] → View G i Return
  value : (x : ℕ) → i.opcode ≡ opcode.RETURN_VALUE → i.operands ≡ operand.Id x ∷ [] → View G i (ReturnValue x)
  unreachable : i.opcode ≡ opcode.UNREACHABLE → i.operands ≡ [] → View G i act.Unreachable
  other : is_other i.opcode ≡ true → View G i Other

-- The rows of these opcodes.

row_54 : row_of 54 ≡ Some (row 54 54 class.Function (T ∷ R ∷ kind kind_of.FunctionControl ∷ t ∷ []) closed)
unfolding rows
row_54 = refl

row_55 : row_of 55 ≡ Some (row 55 55 class.Parameter (T ∷ R ∷ []) closed)
unfolding rows
row_55 = refl

row_56 : row_of 56 ≡ Some (row 56 56 class.FunctionEnd [] closed)
unfolding rows
row_56 = refl

pub row_57 : row_of 57 ≡ Some (row 57 57 class.Body (T ∷ R ∷ f ∷ []) (repeated (v ∷ [])))
unfolding rows
row_57 = refl

pub row_245 : row_of 245 ≡ Some (row 245 245 class.Phi (T ∷ R ∷ []) (repeated (v ∷ l ∷ [])))
unfolding rows
row_245 = refl

pub row_248 : row_of 248 ≡ Some (row 248 248 class.Label (R ∷ []) closed)
unfolding rows
row_248 = refl

pub row_249 : row_of 249 ≡ Some (row 249 249 class.Branch (l ∷ []) closed)
unfolding rows
row_249 = refl

pub row_250 : row_of 250 ≡ Some (row 250 250 class.BranchConditional (v ∷ l ∷ l ∷ []) (repeated (W ∷ [])))
unfolding rows
row_250 = refl

pub row_251 : row_of 251 ≡ Some (row 251 251 class.Switch (v ∷ l ∷ []) (repeated (N ∷ l ∷ [])))
unfolding rows
row_251 = refl

pub row_253 : row_of 253 ≡ Some (row 253 253 class.Return [] closed)
unfolding rows
row_253 = refl

pub row_254 : row_of 254 ≡ Some (row 254 254 class.Return (v ∷ []) closed)
unfolding rows
row_254 = refl

row_255 : row_of 255 ≡ Some (row 255 255 class.Return [] closed)
unfolding rows
row_255 = refl

by_opcode : (i : PlainInst) (n : ℕ) (r : PlainRow) → nat_eq i.opcode n ≡ true → row_of n ≡ Some r
    → row_of i.opcode ≡ Some r
by_opcode i n r e h = ap row_of (eqb-true i.opcode n e) ∙ h

-- nothing more than the fixed operands
pub closed_row : (G : Table) (fs : List Form) (from to : ℕ) (c : _) (os : List Plain)
    → Has G (row from to c fs closed) os → AreOf G fs os
closed_row G fs from to c os h = fixed h.rest h.ending h.each where
  fixed : (rest : List Form) → Ends closed rest → AreOf G (fs ++ rest) os → AreOf G fs os
  fixed _ Ends.nothing a = let e : fs ++ [] ≡ fs = append-nil fs in rw e at a

is_function : (G : Table) (i : PlainInst) → FitsShape G i → nat_eq i.opcode opcode.FUNCTION ≡ true → View G i Function
is_function G i h e =
    let a = closed_row G (T ∷ R ∷ kind kind_of.FunctionControl ∷ t ∷ []) 54 54 class.Function i.operands
    (has_row G i _ h (by_opcode i 54 _ e row_54)) in
    let b = headed G (kind kind_of.FunctionControl ∷ t ∷ []) i.operands a in
    let c = take G (kind kind_of.FunctionControl) (t ∷ []) b.tail b.rest in
    let m = a_control G c.head c.fits in
    let d = led G role.OfType [] c.tail c.rest in
    let n = none G d.tail d.rest in
    View.function b.type_id b.result m.0 m.1 d.id (eqb-true i.opcode 54 e)
    (b.same ∙ ap (λ os. operand.OfType b.type_id ∷ operand.Result b.result ∷ os)
    (c.same ∙ (ap (λ o. o ∷ c.tail) m.2 ∙ ap (λ os. operand.Mask m.0 m.1 ∷ os)
    (d.same ∙ ap (λ os. operand.Id d.id ∷ os) n))))

is_parameter : (G : Table) (i : PlainInst) → FitsShape G i → nat_eq i.opcode opcode.FUNCTION_PARAMETER ≡ true
    → View G i Parameter
is_parameter G i h e =
    let a = closed_row G (T ∷ R ∷ []) 55 55 class.Parameter i.operands (has_row G i _ h (by_opcode i 55 _ e row_55)) in
    let b = headed G [] i.operands a in
    View.parameter b.type_id b.result (eqb-true i.opcode 55 e)
    (b.same ∙ ap (λ os. operand.OfType b.type_id ∷ operand.Result b.result ∷ os) (none G b.tail b.rest))

is_end : (G : Table) (i : PlainInst) → FitsShape G i → nat_eq i.opcode opcode.FUNCTION_END ≡ true → View G i FunctionEnd
is_end G i h e = View.function_end (eqb-true i.opcode 56 e)
    (none G i.operands (closed_row G [] 56 56 class.FunctionEnd i.operands
    (has_row G i _ h (by_opcode i 56 _ e row_56))))

is_call : (G : Table) (i : PlainInst) → FitsShape G i → nat_eq i.opcode opcode.FUNCTION_CALL ≡ true
    → View G i (call_in i.operands)
is_call G i h e =
    let a = has_row G i _ h (by_opcode i 57 _ e row_57) in
    let b = headed G (f ∷ a.rest) i.operands a.each in
    let c = led G role.Function a.rest b.tail b.rest in
    let same : i.operands ≡ operand.OfType b.type_id ∷ operand.Result b.result ∷ operand.Id c.id ∷ c.tail =
    b.same ∙ ap (λ os. operand.OfType b.type_id ∷ operand.Result b.result ∷ os) c.same in
    subst (View G i) (sym (ap call_in same))
    (View.call b.type_id b.result c.id c.tail a.rest (eqb-true i.opcode 57 e) same a.ending c.rest)

is_phi : (G : Table) (i : PlainInst) → FitsShape G i → nat_eq i.opcode opcode.PHI ≡ true → View G i (phi_in i.operands)
is_phi G i h e =
    let a = has_row G i _ h (by_opcode i 245 _ e row_245) in
    let b = headed G a.rest i.operands a.each in
    subst (View G i) (sym (ap phi_in b.same))
    (View.phi b.type_id b.result b.tail a.rest (eqb-true i.opcode 245 e) b.same a.ending b.rest)

is_a_label : (G : Table) (i : PlainInst) → FitsShape G i → nat_eq i.opcode opcode.LABEL ≡ true → View G i Label
is_a_label G i h e =
    let a = closed_row G (R ∷ []) 248 248 class.Label i.operands (has_row G i _ h (by_opcode i 248 _ e row_248)) in
    let one = take G R [] i.operands a in
    let p = a_result G one.head one.fits in
    View.label p.0 (eqb-true i.opcode 248 e)
    (one.same ∙ (ap (λ o. o ∷ one.tail) p.1 ∙ ap (λ os. operand.Result p.0 ∷ os) (none G one.tail one.rest)))

is_branch : (G : Table) (i : PlainInst) → FitsShape G i → nat_eq i.opcode opcode.BRANCH ≡ true
    → View G i (branch_in i.operands)
is_branch G i h e =
    let a = closed_row G (l ∷ []) 249 249 class.Branch i.operands (has_row G i _ h (by_opcode i 249 _ e row_249)) in
    let b = led G role.Label [] i.operands a in
    let same = b.same ∙ ap (λ os. operand.Id b.id ∷ os) (none G b.tail b.rest) in
    subst (View G i) (sym (ap branch_in same)) (View.branch b.id (eqb-true i.opcode 249 e) same)

is_condition : (G : Table) (i : PlainInst) → FitsShape G i → nat_eq i.opcode opcode.BRANCH_CONDITIONAL ≡ true
    → View G i (condition_in i.operands)
is_condition G i h e =
    let a = has_row G i _ h (by_opcode i 250 _ e row_250) in
    let b = led G role.Value (l ∷ l ∷ a.rest) i.operands a.each in
    let c = led G role.Label (l ∷ a.rest) b.tail b.rest in
    let d = led G role.Label a.rest c.tail c.rest in
    let same = b.same ∙ ap (λ os. operand.Id b.id ∷ os) (c.same ∙ ap (λ os. operand.Id c.id ∷ os) d.same) in
    subst (View G i) (sym (ap condition_in same))
    (View.condition b.id c.id d.id d.tail a.rest (eqb-true i.opcode 250 e) same a.ending d.rest)

is_switch : (G : Table) (i : PlainInst) → FitsShape G i → nat_eq i.opcode opcode.SWITCH ≡ true
    → View G i (switch_in i.operands)
is_switch G i h e =
    let a = has_row G i _ h (by_opcode i 251 _ e row_251) in
    let b = led G role.Value (l ∷ a.rest) i.operands a.each in
    let c = led G role.Label a.rest b.tail b.rest in
    let same = b.same ∙ ap (λ os. operand.Id b.id ∷ os) c.same in
    subst (View G i) (sym (ap switch_in same))
    (View.switch b.id c.id c.tail a.rest (eqb-true i.opcode 251 e) same a.ending c.rest)

is_return : (G : Table) (i : PlainInst) → FitsShape G i → nat_eq i.opcode opcode.RETURN ≡ true → View G i Return
is_return G i h e = View.return (eqb-true i.opcode 253 e)
    (none G i.operands (closed_row G [] 253 253 class.Return i.operands
    (has_row G i _ h (by_opcode i 253 _ e row_253))))

is_value : (G : Table) (i : PlainInst) → FitsShape G i → nat_eq i.opcode opcode.RETURN_VALUE ≡ true
    → View G i (value_in i.operands)
is_value G i h e =
    let a = closed_row G (v ∷ []) 254 254 class.Return i.operands (has_row G i _ h (by_opcode i 254 _ e row_254)) in
    let b = led G role.Value [] i.operands a in
    let same = b.same ∙ ap (λ os. operand.Id b.id ∷ os) (none G b.tail b.rest) in
    subst (View G i) (sym (ap value_in same)) (View.value b.id (eqb-true i.opcode 254 e) same)

is_unreachable : (G : Table) (i : PlainInst) → FitsShape G i → nat_eq i.opcode opcode.UNREACHABLE ≡ true
    → View G i act.Unreachable
is_unreachable G i h e =
    View.unreachable (eqb-true i.opcode 255 e)
    (none G i.operands (closed_row G [] 255 255 class.Return i.operands
    (has_row G i _ h (by_opcode i 255 _ e row_255))))

one_step : (G : Table) (i : PlainInst) (n : ℕ) (a b : Act) → (nat_eq i.opcode n ≡ true → View G i a)
    → (nat_eq i.opcode n ≡ false → View G i b) → View G i (if nat_eq i.opcode n then a else b)
one_step G i n a b is_so is_not =
    elim (cases_Bool (nat_eq i.opcode n)) [ inl e ↦ rw e (is_so e) | inr e ↦ rw e (is_not e) ]

pub view : (G : Table) (i : PlainInst) → FitsShape G i → View G i (act_of i)
unfolding act_of
view G i h =
    one_step G i 54 _ _ (is_function G i h) (λ e54.
    one_step G i 55 _ _ (is_parameter G i h) (λ e55.
    one_step G i 56 _ _ (is_end G i h) (λ e56.
    one_step G i 57 _ _ (is_call G i h) (λ e57.
    one_step G i 245 _ _ (is_phi G i h) (λ e245.
    one_step G i 248 _ _ (is_a_label G i h) (λ e248.
    one_step G i 249 _ _ (is_branch G i h) (λ e249.
    one_step G i 250 _ _ (is_condition G i h) (λ e250.
    one_step G i 251 _ _ (is_switch G i h) (λ e251.
    one_step G i 253 _ _ (is_return G i h) (λ e253.
    one_step G i 254 _ _ (is_value G i h) (λ e254.
    one_step G i 255 _ _ (is_unreachable G i h) (λ e255.
    View.other (rw (e54, e55, e56, e57, e245, e248, e249, e250, e251, e253, e254, e255) refl)))))))))))))
