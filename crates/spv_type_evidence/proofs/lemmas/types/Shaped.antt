-- The operands of instructions that fit their rows.
use Rattle.std.proofs.Common.{◌≡◌, ◌∙◌, ◌≤◌, ◌+◌, ◌++◌, ℕ, zero, suc, List, [], ◌∷◌, Option, Some, None, refl, sym, ap}
use Rattle.std.proofs.Common.{subst, length, map, arith, option_and_then, nat_eq}
use Rattle.std.specs.Prelude.{slice_get, sum_by, IsSomeAnd, IsSome, if◌then◌else◌, Bool, true, false}
use Rattle.std.proofs.lemmas.Bool.{eqb-true}
use Rattle.std.proofs.lemmas.List.Sums.{sum_by-cons, sum_by-append}
use Rattle.spv_table.specs.Table.{Table}
use Rattle.spv_module.specs.Operand.{Plain, PlainInst, type_in, result_in}
use Rattle.spv_module.specs.Operand as operand
use Rattle.spv_module.specs.Width.{definition_of, type_of, or_else, has_result}
use Rattle.spv_module.specs.declared.opcode.TheConstants as opcode
use Rattle.spv_layout.specs.declared.class.Class.TheVariants.{Declaration, Function, Parameter, Body, Return}
use Rattle.spv_layout.specs.declared.form.Form.{Form}
use Rattle.spv_layout.specs.declared.form.Form.TheVariants as form
use Rattle.spv_layout.specs.declared.form.Role.{Role}
use Rattle.spv_layout.specs.declared.form.Role.TheVariants as role
use Rattle.spv_layout.specs.declared.form.Named.TheVariants as kind_of
use Rattle.spv_layout.specs.Place.{operand_words, word_count}
use Rattle.spv_layout.specs.Row.{PlainRow, closed, repeated}
use Rattle.spv_layout.specs.inner.Row.{row, t, v, f, kind, T, R}
use Rattle.spv_layout.specs.Rows.{rows, row_of}
use Rattle.spv_layout.specs.Shape.{is_of, AreOf, Ends, HasForms, FitsShape, IsUse}
use Rattle.spv_layout.proofs.Shapes.{are_moved, rows_same, no_operands}
use Rattle.spv_ids.specs.Definition.{IsUsedAt}
use Rattle.spv_type_kinds.specs.Operands.{ids_in}
use Rattle.spv_type_forms.specs.Parts.{after_result}
use Rattle.spv_type_forms.specs.Values.{types_of}
use Rattle.spv_type_rules.specs.roles.inner.Role.{IsValue, IsOfOpcode}
use Rattle.spv_type_rules.specs.Function.{function_type_in, signature_in}
use Rattle.spv_type_evidence.specs.types.inner.Known.{IsKnown, IsSignature, IsFunction, ReturnsOne, CallsOne}

-- Operands by their forms.

an_id : (G : Table) (r : Role) (o : Plain) → is_of G (form.Id r) o ≡ true → (x : ℕ) × (o ≡ operand.Id x)
an_id G r (operand.Id a) h = (a, refl)
an_id G r _ h = cc

a_type : (G : Table) (o : Plain) → is_of G form.OfType o ≡ true → (x : ℕ) × (o ≡ operand.OfType x)
a_type G (operand.OfType a) h = (a, refl)
a_type G _ h = cc

a_result : (G : Table) (o : Plain) → is_of G form.Result o ≡ true → (x : ℕ) × (o ≡ operand.Result x)
a_result G (operand.Result a) h = (a, refl)
a_result G _ h = cc

-- the first operand, and the others
record Front (G : Table) (g : Form) (gs : List Form) (os : List Plain) : Type 0 where
  first : Plain
  rest : List Plain
  split : os ≡ first ∷ rest
  of : is_of G g first ≡ true
  later : AreOf G gs rest

front : (G : Table) (g : Form) (gs : List Form) (os : List Plain) → AreOf G (g ∷ gs) os → Front G g gs os
front G g gs [] a = elim a [ ]
front G g gs (o ∷ os) (AreOf.more _ _ _ _ i a) = record { first = o; rest = os; split = refl; of = i; later = a }

no_rest : (gs : List Form) → Ends closed gs → gs ≡ []
no_rest _ Ends.nothing = refl

all_ids : (G : Table) (r : Role) (gs : List Form) (os : List Plain) → Ends (repeated (form.Id r ∷ [])) gs
    → AreOf G gs os → os ≡ map operand.Id (ids_in os)
all_ids G r gs [] e a = refl
all_ids G r gs (o ∷ os) (Ends.done _) a = elim a [ ]
all_ids G r gs (o ∷ os) (Ends.again _ hs e) (AreOf.more _ _ _ _ i a) =
    let x = an_id G r o i in
    rw x.1 (ap (λ ps. operand.Id x.0 ∷ ps) (all_ids G r hs os e a))

-- The row of an instruction that fits it.
record Shaped (G : Table) (r : PlainRow) (i : PlainInst) : Type 0 where
  rest : List Form
  has : HasForms G i (r.fixed ++ rest)
  ending : Ends r.ending rest
  each : AreOf G (r.fixed ++ rest) i.operands

shaped : (G : Table) (r : PlainRow) (i : PlainInst) → FitsShape G i → row_of i.opcode ≡ Some r → Shaped G r i
shaped G r i fits known =
    let h = fits.has in
    let same : h.row ≡ r = rows_same i.opcode h.row r h.known known in
    let e : fits.forms ≡ r.fixed ++ h.rest = h.forms ∙ ap (λ (s : PlainRow). s.fixed ++ h.rest) same in
    record {
      rest = h.rest;
      has = subst (HasForms G i) e h;
      ending = subst (λ (s : PlainRow). Ends s.ending h.rest) same h.ending;
      each = are_moved G fits.forms (r.fixed ++ h.rest) i.operands e h.each;
    }

-- The rows.
abbrev function_row : PlainRow
function_row = row opcode.FUNCTION opcode.FUNCTION Function (T ∷ R ∷ kind kind_of.FunctionControl ∷ t ∷ []) closed

abbrev parameter_row : PlainRow
parameter_row = row opcode.FUNCTION_PARAMETER opcode.FUNCTION_PARAMETER Parameter (T ∷ R ∷ []) closed

abbrev type_row : PlainRow
type_row = row opcode.TYPE_FUNCTION opcode.TYPE_FUNCTION Declaration (R ∷ t ∷ []) (repeated (t ∷ []))

abbrev call_row : PlainRow
call_row = row opcode.FUNCTION_CALL opcode.FUNCTION_CALL Body (T ∷ R ∷ f ∷ []) (repeated (v ∷ []))

abbrev value_row : PlainRow
value_row = row opcode.RETURN_VALUE opcode.RETURN_VALUE Return (v ∷ []) closed

function_known : row_of opcode.FUNCTION ≡ Some function_row
unfolding rows
function_known = refl

parameter_known : row_of opcode.FUNCTION_PARAMETER ≡ Some parameter_row
unfolding rows
parameter_known = refl

type_known : row_of opcode.TYPE_FUNCTION ≡ Some type_row
unfolding rows
type_known = refl

call_known : row_of opcode.FUNCTION_CALL ≡ Some call_row
unfolding rows
call_known = refl

value_known : row_of opcode.RETURN_VALUE ≡ Some value_row
unfolding rows
value_known = refl

-- What definitions say.

or_there : (P : PlainInst → Type 0) (a b : Option PlainInst) (d : PlainInst) → or_else a b ≡ Some d → (a ≡ Some d → P d)
    → (b ≡ Some d → P d) → P d
or_there P None b d e x y = y e
or_there P (Some a) b d e x y = x e

definition_there : (is : List PlainInst) (x : ℕ) (d : PlainInst) → definition_of is x ≡ Some d
    → (n : ℕ) × (slice_get is n ≡ Some d)
definition_there [] x d e = cc
definition_there (i ∷ is) x d e =
    let b = has_result (result_in i.operands) x in
    or_there (λ c. (n : ℕ) × (slice_get (i ∷ is) n ≡ Some c)) (definition_of is x) (if b then Some i else None) d e
    (λ h. let m = definition_there is x d h in (suc m.0, m.1))
    (λ h. here b h)
  where
    here : (c : Bool) → (if c then Some i else None) ≡ Some d → (n : ℕ) × (slice_get (i ∷ is) n ≡ Some d)
    here true h = (0, h)
    here false h = cc

value_typed : (o : Option PlainInst) → IsSomeAnd o IsValue
    → (u : ℕ) × (option_and_then (λ i. type_in i.operands) o ≡ Some u)
value_typed None h = absurd h
value_typed (Some d) h = of (type_in d.operands) h.0 where
  of : (p : Option ℕ) → IsSome p → (u : ℕ) × (p ≡ Some u)
  of None k = cc
  of (Some u) k = (u, refl)

pub typeable : (G : Table) (is : List PlainInst) (n : ℕ) (i : PlainInst) (gs : List Form) → IsKnown G is
    → slice_get is n ≡ Some i → HasForms G i gs
    → (k x : ℕ) → slice_get gs k ≡ Some (form.Id role.Value) → slice_get i.operands k ≡ Some (operand.Id x)
    → (u : ℕ) × (type_of is x ≡ Some u)
typeable G is n i gs known at has k x g o =
    let asked : IsUse G i k x role.Value = record {
      forms = gs;
      has = has;
      form = form.Id role.Value;
      operand = operand.Id x;
      form_at = g;
      operand_at = o;
      role = refl;
      id = refl;
    } in
    let used : IsUsedAt G is n k x role.Value = record { inst = i; there = at; used = asked } in
    value_typed (definition_of is x) (known.roles.each n k x role.Value used)

with_type : (is : List PlainInst) (x : ℕ) (xs : List ℕ) → (u : ℕ) × (type_of is x ≡ Some u)
    → (us : List ℕ) × (types_of is xs ≡ Some us) → (us : List ℕ) × (types_of is (x ∷ xs) ≡ Some us)
with_type is x xs u us = (u.0 ∷ us.0, rw (u.1, us.1) refl)

-- ids that stand where values are due
values_typed : (G : Table) (is : List PlainInst) (gs : List Form) (os : List Plain) → Ends (repeated (v ∷ [])) gs
    → AreOf G gs os
    → ((k x : ℕ) → slice_get gs k ≡ Some (form.Id role.Value) → slice_get os k ≡ Some (operand.Id x)
    → (u : ℕ) × (type_of is x ≡ Some u))
    → (us : List ℕ) × (types_of is (ids_in os) ≡ Some us)
values_typed G is gs [] e a h = ([], refl)
values_typed G is gs (o ∷ os) (Ends.done _) a h = elim a [ ]
values_typed G is gs (o ∷ os) (Ends.again _ hs e) (AreOf.more _ _ _ _ i a) h =
    let x = an_id G role.Value o i in
    let first = h 0 x.0 refl (ap Some x.1) in
    rw x.1 (with_type is x.0 (ids_in os) first (values_typed G is hs os e a (λ k y g p. h (suc k) y g p)))

-- How many operands there are.

pub one_word : (o : Plain) (os : List Plain) → sum_by operand_words os ≤ sum_by operand_words (o ∷ os)
one_word o os = let e = sum_by-cons operand_words o os in omega arith

pub few_ids : (os : List Plain) → length (ids_in os) ≤ sum_by operand_words os
few_ids [] = omega arith
few_ids (operand.Id x ∷ os) = let r = few_ids os in
    let e : sum_by operand_words (operand.Id x ∷ os) ≡ 1 + sum_by operand_words os = sum_by-cons operand_words
    (operand.Id x) os in omega arith
few_ids (operand.OfType x ∷ os) = omega arith
few_ids (operand.Result x ∷ os) = omega arith
few_ids (operand.Word x ∷ os) = omega arith
few_ids (operand.Argument x ∷ os) = omega arith
few_ids (operand.Mention x ∷ os) = omega arith
few_ids (operand.Number a b w ∷ os) = omega arith
few_ids (operand.Text x ∷ os) = omega arith
few_ids (operand.Value a b ∷ os) = omega arith
few_ids (operand.Mask a b ∷ os) = omega arith

pub few_words : (is : List PlainInst) (n : ℕ) (i : PlainInst) → slice_get is n ≡ Some i
    → sum_by operand_words i.operands ≤ sum_by word_count is
few_words [] n i h = cc
few_words (j ∷ is) zero i h =
    let e : j ≡ i = cc in
    let c : sum_by word_count (j ∷ is) ≡ (1 + sum_by operand_words j.operands) + sum_by word_count is = sum_by-cons
    word_count j is in
    let l : sum_by operand_words j.operands ≤ sum_by word_count (j ∷ is) = omega arith in
    subst (λ (k : PlainInst). sum_by operand_words k.operands ≤ sum_by word_count (j ∷ is)) e l
few_words (j ∷ is) (suc n) i h = let r = few_words is n i h in let c = sum_by-cons word_count j is in omega arith

-- operands by how they begin
type_front : (os rest : List Plain) (x : ℕ) → os ≡ operand.OfType x ∷ rest → type_in os ≡ Some x
type_front os rest x e = rw e refl

first_there : (os rest : List Plain) (o : Plain) → os ≡ o ∷ rest → slice_get os 0 ≡ Some o
first_there os rest o e = rw e refl

third_there : (os rest : List Plain) (a b o : Plain) → os ≡ a ∷ b ∷ o ∷ rest → slice_get os 2 ≡ Some o
third_there os rest a b o e = rw e refl

later_there : (os rest : List Plain) (a b c o : Plain) (k : ℕ) → os ≡ a ∷ b ∷ c ∷ rest → slice_get rest k ≡ Some o
    → slice_get os (suc (suc (suc k))) ≡ Some o
later_there os rest a b c o k e h = rw e h

-- as many operands as words, where the first are told
few_rest : (os : List Plain) (front rest : List Plain) (most : ℕ) → os ≡ front ++ rest → sum_by operand_words os ≤ most
    → length (ids_in rest) ≤ most
few_rest os front rest most e h =
    let a : sum_by operand_words (front ++ rest) ≡ sum_by operand_words front + sum_by operand_words
    rest = sum_by-append operand_words front rest in
    let b : sum_by operand_words (front ++ rest) ≤ most = subst (λ ps. sum_by operand_words ps ≤ most) e h in
    let c = few_ids rest in
    omega arith

function_named : (d : PlainInst) (rest : List Plain) (x y z : ℕ) (o : Plain) → d.opcode ≡ opcode.FUNCTION
    → d.operands ≡ operand.OfType x ∷ operand.Result y ∷ o ∷ operand.Id z ∷ rest → function_type_in d ≡ Some z
function_named d rest x y z o e f = rw (e, f) refl

-- OpFunction

signed : (G : Table) (is : List PlainInst) (n : ℕ) (j : PlainInst) (os : List Plain) → IsKnown G is
    → slice_get is n ≡ Some j → signature_in j ≡ Some os → IsSignature os
signed G is n j os known at e = by (nat_eq j.opcode opcode.TYPE_FUNCTION) refl e where
  by : (b : Bool) → nat_eq j.opcode opcode.TYPE_FUNCTION ≡ b
      → (if b then Some (after_result j.operands) else None) ≡ Some os → IsSignature os
  by false q e = cc
  by true q e =
      let o : j.opcode ≡ opcode.TYPE_FUNCTION = eqb-true j.opcode opcode.TYPE_FUNCTION q in
      let s = shaped G type_row j (known.fits n j at) (ap row_of o ∙ type_known) in
      let a = front G R (t ∷ s.rest) j.operands s.each in
      let x = a_result G a.first a.of in
      let b = front G t s.rest a.rest a.later in
      let y = an_id G role.OfType b.first b.of in
      let ids = all_ids G role.OfType s.rest b.rest s.ending b.later in
      let shape : j.operands ≡ operand.Result x.0 ∷ operand.Id y.0 ∷ b.rest = a.split ∙ ap (λ p. p ∷ a.rest) x.1
      ∙ ap (λ ps. operand.Result x.0 ∷ ps) (b.split ∙ ap (λ p. p ∷ b.rest) y.1) in
      let same : after_result j.operands ≡ os = cc in
      let rest : operand.Id y.0 ∷ b.rest ≡ os = sym (ap after_result shape) ∙ same in
      let few : length (ids_in b.rest) ≤ sum_by word_count is = few_rest j.operands
      (operand.Result x.0 ∷ operand.Id y.0 ∷ []) b.rest (sum_by word_count is) shape (few_words is n j at) in
      let words = known.words in
      record {
        returned = y.0;
        taken = ids_in b.rest;
        all = sym rest ∙ ap (λ ps. operand.Id y.0 ∷ ps) ids;
        few = omega arith;
      }

pub function_shape : (G : Table) (is : List PlainInst) (n : ℕ) (d : PlainInst) → IsKnown G is → slice_get is n ≡ Some d
    → d.opcode ≡ opcode.FUNCTION → IsFunction is d
function_shape G is n d known at o =
    let s = shaped G function_row d (known.fits n d at) (ap row_of o ∙ function_known) in
    let a = front G T (R ∷ kind kind_of.FunctionControl ∷ t ∷ s.rest) d.operands s.each in
    let x = a_type G a.first a.of in
    let b = front G R (kind kind_of.FunctionControl ∷ t ∷ s.rest) a.rest a.later in
    let y = a_result G b.first b.of in
    let c = front G (kind kind_of.FunctionControl) (t ∷ s.rest) b.rest b.later in
    let e = front G t s.rest c.rest c.later in
    let z = an_id G role.OfType e.first e.of in
    let shape : d.operands ≡ operand.OfType x.0 ∷ operand.Result y.0 ∷ c.first ∷ operand.Id z.0 ∷ e.rest = (
    a.split ∙ ap (λ p. p ∷ a.rest) x.1
    ∙ ap (λ ps. operand.OfType x.0 ∷ ps) (b.split ∙ ap (λ p. p ∷ b.rest) y.1
    ∙ ap (λ ps. operand.Result y.0 ∷ ps) (c.split ∙ ap (λ ps. c.first ∷ ps) (e.split ∙ ap (λ p. p ∷ e.rest) z.1)))
    ) in
    let names = function_named d e.rest x.0 y.0 z.0 c.first o shape in
    record {
      result = x.0;
      has = type_front d.operands (operand.Result y.0 ∷ c.first ∷ operand.Id z.0 ∷ e.rest) x.0 shape;
      id = z.0;
      names = names;
      signature = λ os q.
          let r : option_and_then signature_in (definition_of is z.0) ≡ Some os = rw names at q in
          of z.0 os (definition_of is z.0) refl r;
    }
  where
    of : (u : ℕ) (os : List Plain) (p : Option PlainInst) → definition_of is u ≡ p
        → option_and_then signature_in p ≡ Some os → IsSignature os
    of u os None q r = cc
    of u os (Some j) q r = let m = definition_there is u j q in signed G is m.0 j os known m.1 r

pub parameter_shape : (G : Table) (is : List PlainInst) (n : ℕ) (i : PlainInst) → IsKnown G is → slice_get is n ≡ Some i
    → i.opcode ≡ opcode.FUNCTION_PARAMETER → (u : ℕ) × (type_in i.operands ≡ Some u)
parameter_shape G is n i known at o =
    let s = shaped G parameter_row i (known.fits n i at) (ap row_of o ∙ parameter_known) in
    let a = front G T (R ∷ s.rest) i.operands s.each in
    let x = a_type G a.first a.of in
    (x.0, type_front i.operands a.rest x.0 (a.split ∙ ap (λ p. p ∷ a.rest) x.1))

pub value_shape : (G : Table) (is : List PlainInst) (n : ℕ) (i : PlainInst) → IsKnown G is → slice_get is n ≡ Some i
    → i.opcode ≡ opcode.RETURN_VALUE → ReturnsOne is i
value_shape G is n i known at o =
    let s = shaped G value_row i (known.fits n i at) (ap row_of o ∙ value_known) in
    let a = front G v s.rest i.operands s.each in
    let x = an_id G role.Value a.first a.of in
    let none : a.rest ≡ [] = no_operands G s.rest a.rest a.later (no_rest s.rest s.ending) in
    let shape : i.operands ≡ operand.Id x.0 ∷ [] = a.split ∙ ap (λ p. p ∷ a.rest) x.1
    ∙ ap (λ ps. operand.Id x.0 ∷ ps) none in
    let u = typeable G is n i (v ∷ s.rest) known at s.has 0 x.0 refl
    (first_there i.operands [] (operand.Id x.0) shape) in
    record { id = x.0; operands = shape; found = u.0; typed = u.1 }

function_there : (o : Option PlainInst) → IsSomeAnd o (IsOfOpcode opcode.FUNCTION)
    → (d : PlainInst) × (o ≡ Some d) × (d.opcode ≡ opcode.FUNCTION)
function_there None h = absurd h
function_there (Some d) h = (d, refl, h)

pub call_shape : (G : Table) (is : List PlainInst) (n : ℕ) (i : PlainInst) → IsKnown G is → slice_get is n ≡ Some i
    → i.opcode ≡ opcode.FUNCTION_CALL → CallsOne is i
call_shape G is n i known at o =
    let s = shaped G call_row i (known.fits n i at) (ap row_of o ∙ call_known) in
    let a = front G T (R ∷ f ∷ s.rest) i.operands s.each in
    let x = a_type G a.first a.of in
    let b = front G R (f ∷ s.rest) a.rest a.later in
    let y = a_result G b.first b.of in
    let c = front G f s.rest b.rest b.later in
    let z = an_id G role.Function c.first c.of in
    let shape : i.operands ≡ operand.OfType x.0 ∷ operand.Result y.0 ∷ operand.Id z.0 ∷ c.rest = (
    a.split ∙ ap (λ p. p ∷ a.rest) x.1
    ∙ ap (λ ps. operand.OfType x.0 ∷ ps) (b.split ∙ ap (λ p. p ∷ b.rest) y.1
    ∙ ap (λ ps. operand.Result y.0 ∷ ps) (c.split ∙ ap (λ p. p ∷ c.rest) z.1))
    ) in
    let asked : IsUse G i 2 z.0 role.Function = record {
      forms = T ∷ R ∷ f ∷ s.rest;
      has = s.has;
      form = f;
      operand = operand.Id z.0;
      form_at = refl;
      operand_at = third_there i.operands c.rest (operand.OfType x.0) (operand.Result y.0) (operand.Id z.0) shape;
      role = refl;
      id = refl;
    } in
    let d = function_there (definition_of is z.0)
    (known.roles.each n 2 z.0 role.Function (record { inst = i; there = at; used = asked })) in
    let m = definition_there is z.0 d.0 d.1 in
    let types = values_typed G is s.rest c.rest s.ending c.later
    (λ k w g p. typeable G is n i (T ∷ R ∷ f ∷ s.rest) known at s.has (suc (suc (suc k))) w g
    (later_there i.operands c.rest (operand.OfType x.0) (operand.Result y.0) (operand.Id z.0)
    (operand.Id w) k shape p)) in
    let few : length (ids_in c.rest) ≤ sum_by word_count is =
    few_rest i.operands (operand.OfType x.0 ∷ operand.Result y.0 ∷ operand.Id z.0 ∷ []) c.rest
    (sum_by word_count is) shape (few_words is n i at)
    in
    let words = known.words in
    record {
      result_type = x.0;
      result = y.0;
      callee = z.0;
      rest = c.rest;
      operands = shape;
      ids = all_ids G role.Value s.rest c.rest s.ending c.later;
      function = d.0;
      defined = d.1;
      shape = function_shape G is m.0 d.0 known m.1 d.2;
      found = types.0;
      typed = types.1;
      few = omega arith;
    }
