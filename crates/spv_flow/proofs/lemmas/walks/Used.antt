-- The ids among the operands of an instruction, by role.
use Rattle.std.proofs.Common.{◌≡◌, ◌∙◌, ℕ, zero, suc, List, [], ◌∷◌, refl, sym, true, Option, Some, None, map, ap}
use Rattle.std.proofs.Common.{subst}
use Rattle.std.specs.Prelude.{slice_get, option_and_then, MatchOption}
use Rattle.spv_table.specs.Table.{Table}
use Rattle.spv_module.specs.Operand.{Plain, PlainInst}
use Rattle.spv_module.specs.Operand as operand
use Rattle.spv_module.specs.declared.operand.Operand.{Operand}
use Rattle.spv_module.specs.Module.{plain_operand}
use Rattle.spv_layout.specs.declared.form.Role.{Role}
use Rattle.spv_layout.specs.declared.form.Role.TheVariants.{Value}
use Rattle.spv_layout.specs.declared.form.Role.TheVariants as role
use Rattle.spv_layout.specs.declared.form.Form.{Form}
use Rattle.spv_layout.specs.declared.form.Form.TheVariants as form
use Rattle.spv_module.specs.declared.opcode.TheConstants as opcode
use Rattle.spv_layout.specs.Shape.{is_of, AreOf, FitsShape, IsUse, IsRole, role_of, id_of}
use Rattle.spv_layout.proofs.Shapes.{use_same}
use Rattle.spv_ids.specs.Definition.{IsDefinedAt, IsUsedAt}
use Rattle.spv_ids.specs.inner.Uses.{behind, seen_id}
use Rattle.spv_ids.proofs.Used.{behind_other, id_used, mention_told}
use Rattle.spv_flow.proofs.lemmas.branches.Labelled.{use_in}
use Rattle.spv_flow.specs.walks.inner.Due.{IsFoundAt}

pub value_some : (G : Table) (i : PlainInst) (n : ℕ) (o : Option ℕ) → o ≡ option_and_then id_of (slice_get i.operands n)
    → IsRole G i n (Some Value) → MatchOption o ((x : ℕ) → ¬ (IsUse G i n x Value)) (λ x. IsUse G i n x Value)
value_some G i n o e (x, u) =
    let f : o ≡ Some x = e ∙ ap (option_and_then id_of) u.operand_at ∙ u.id in
    rw f u

pub value_other : (G : Table) (i : PlainInst) (n : ℕ) (r : Role) (x : ℕ) → IsRole G i n (Some r) → (r ≡ Value → ⊥)
    → ¬ (IsUse G i n x Value)
value_other G i n r x (y, u) apart w = apart (use_same G i n y x r Value u w).role

pub used_some : (G : Table) (i : PlainInst) (n : ℕ) (o : Option ℕ) (r : Role)
    → o ≡ option_and_then id_of (slice_get i.operands n) → IsRole G i n (Some r)
    → MatchOption o ((x : ℕ) (q : Role) → ¬ (IsUse G i n x q)) (λ x. (q : Role) × IsUse G i n x q)
used_some G i n o r e (x, u) =
    let f : o ≡ Some x = e ∙ ap (option_and_then id_of) u.operand_at ∙ u.id in
    rw f (r, u)

-- Only an id other than a result is a use.

of_form : (G : Table) (fs : List Form) (os : List Plain) (n : ℕ) (f : Form) (o : Plain) → AreOf G fs os
    → slice_get fs n ≡ Some f → slice_get os n ≡ Some o → is_of G f o ≡ true
of_form G _ _ n f o AreOf.none h g = cc
of_form G _ _ zero f o (AreOf.more f' o' fs os k r) h g = let a : f' ≡ f = cc in let b : o' ≡ o = cc in rw (← a, ← b) k
of_form G _ _ (suc n) f o (AreOf.more f' o' fs os k r) h g = of_form G fs os n f o r h g

role_used : (G : Table) (f : Form) (o : Plain) (r : Role) (x : ℕ) → is_of G f o ≡ true → role_of f o ≡ Some r
    → id_of o ≡ Some x → seen_id o ≡ Some x
role_used G f (operand.OfType y) r x h g k = k
role_used G f (operand.Id y) r x h g k = k
role_used G f (operand.Argument y) r x h g k = k
role_used G f (operand.Mention y) r x h g k = k
role_used G form.Result (operand.Result y) r x h g k = cc
role_used G _ (operand.Result y) r x h g k = cc
role_used G f (operand.Word y) r x h g k = cc
role_used G f (operand.Number a b c) r x h g k = cc
role_used G f (operand.Text t) r x h g k = cc
role_used G f (operand.Value a b) r x h g k = cc
role_used G f (operand.Mask a b) r x h g k = cc

use_other : (G : Table) (i : PlainInst) (n x : ℕ) (r : Role) → IsUse G i n x r
    → option_and_then seen_id (slice_get i.operands n) ≡ Some x
use_other G i n x r u =
    let k = of_form G u.forms i.operands n u.form u.operand u.has.each u.form_at u.operand_at in
    ap (option_and_then seen_id) u.operand_at ∙ role_used G u.form u.operand r x k u.role u.id

-- an operand from which an id comes
some_operand : (p : Option Plain) (x : ℕ) → Some x ≡ option_and_then seen_id p
    → (o : Plain) × (p ≡ Some o) × (seen_id o ≡ Some x)
some_operand None x h = cc
some_operand (Some o) x h = (o, refl, sym h)

-- an operand that is there has a form, and an argument that of what is behind the number of an OpExtInst
record HasForm (G : Table) (fs : List Form) (n : ℕ) (o : Plain) : Type 0 where
  form : Form
  there : slice_get fs n ≡ Some form
  fits : is_of G form o ≡ true

form_there : (G : Table) (fs : List Form) (os : List Plain) (n : ℕ) (o : Plain) → AreOf G fs os
    → slice_get os n ≡ Some o → HasForm G fs n o
form_there G _ _ n o AreOf.none h = cc
form_there G _ _ zero o (AreOf.more f p fs os k r) h = let a : p ≡ o = cc in
    record { form = f; there = refl; fits = rw (← a) k }
form_there G _ _ (suc n) o (AreOf.more f p fs os k r) h = let t = form_there G fs os n o r h in
    record { form = t.form; there = t.there; fits = t.fits }

argument_form : (G : Table) (f : Form) (x : ℕ) → is_of G f (operand.Argument x) ≡ true → f ≡ form.Unseen
argument_form G form.Unseen x h = refl
argument_form G _ x h = cc

argument_used : (G : Table) (i : PlainInst) (n x : ℕ) → FitsShape G i
    → slice_get i.operands n ≡ Some (operand.Argument x) → (q : Role) × IsUse G i n x q
argument_used G i n x f a =
    let t = form_there G f.forms i.operands n (operand.Argument x) f.has.each a in
    let e = argument_form G t.form x t.fits in
    let g = t.there in (
      role.Value,
      record {
        forms = f.forms;
        has = f.has;
        form = form.Unseen;
        operand = operand.Argument x;
        form_at = rw e at g;
        operand_at = a;
        role = refl;
        id = refl;
      },
    )

-- an id that is only named stands there alone
alone_fits : (G : Table) (i : PlainInst) → FitsShape G i → (m : ℕ) (j : PlainInst) → slice_get (i ∷ []) m ≡ Some j
    → FitsShape G j
alone_fits G i f zero j h = let e : i ≡ j = cc in rw e at f
alone_fits G i f (suc m) j h = cc

mention_apart : (G : Table) (i : PlainInst) (n x : ℕ) → FitsShape G i → (i.opcode ≡ opcode.EXT_INST → ⊥)
    → slice_get i.operands n ≡ Some (operand.Mention x) → ⊥
mention_apart G i n x f k a =
    let t = mention_told G (i ∷ []) 0 n x (alone_fits G i f) (record { inst = i; there = refl; named = a }) in
    let h = t.there in
    let e : t.inst ≡ i = cc in
    let b = t.operand_at in
    let c : slice_get (behind i) t.place ≡ Some (operand.Mention x) = rw e at b in
    let d : slice_get [] t.place ≡ Some (operand.Mention x) = rw (behind_other i k) at c in
    cc

-- of another opcode than OpExtInst's each operand that is such an id is a use
operand_used : (G : Table) (i : PlainInst) (n x : ℕ) (o : Plain) → FitsShape G i → (i.opcode ≡ opcode.EXT_INST → ⊥)
    → slice_get i.operands n ≡ Some o → seen_id o ≡ Some x → (q : Role) × IsUse G i n x q
operand_used G i n x (operand.OfType y) f k a u = id_used G i n x (operand.OfType y) f k a u
operand_used G i n x (operand.Id y) f k a u = id_used G i n x (operand.Id y) f k a u
operand_used G i n x (operand.Argument y) f k a u = let e : y ≡ x = cc in argument_used G i n x f (rw e at a)
operand_used G i n x (operand.Mention y) f k a u = absurd (mention_apart G i n y f k a)
operand_used G i n x _ f k a u = cc

pub used_all : (G : Table) (i : PlainInst) (n : ℕ) (o : Option ℕ) → FitsShape G i → (i.opcode ≡ opcode.EXT_INST → ⊥)
    → o ≡ option_and_then seen_id (slice_get i.operands n)
    → MatchOption o ((x : ℕ) (q : Role) → ¬ (IsUse G i n x q)) (λ x. (q : Role) × IsUse G i n x q)
used_all G i n None f k e = λ x r u. (let t = use_other G i n x r u in cc)
used_all G i n (Some x) f k e = let p = some_operand (slice_get i.operands n) x e in
    operand_used G i n x p.0 f k p.1 p.2

-- where an operand is no such id, nothing is used
pub none_found : (G : Table) (is : List PlainInst) (m n : ℕ) (i : PlainInst) → slice_get is m ≡ Some i
    → None ≡ option_and_then seen_id (slice_get i.operands n) → IsFoundAt G is m n None
none_found G is m n i there e = λ x d r u at. (let k = use_other G i n x r (use_in G is m n x r i there u) in cc)

-- where it is, what defines that id defines what is used
pub found_by : (G : Table) (is : List PlainInst) (m n x : ℕ) (i : PlainInst) → slice_get is m ≡ Some i
    → Some x ≡ option_and_then seen_id (slice_get i.operands n)
    → (o : Option ℕ) → MatchOption o ((d : ℕ) → ¬ (IsDefinedAt is x d)) (λ d. IsDefinedAt is x d) → IsFoundAt G is m n o
found_by G is m n x i there e None h = λ y d r u at.
    let k = use_other G i n y r (use_in G is m n y r i there u) in
    let s : y ≡ x = cc in
    h d (subst (λ (z : ℕ). IsDefinedAt is z d) s at)
found_by G is m n x i there e (Some d) h = λ y r u.
    let k = use_other G i n y r (use_in G is m n y r i there u) in
    let s : x ≡ y = cc in
    subst (λ (z : ℕ). IsDefinedAt is z d) s h

-- and that id is the one that is used
pub one_used : (G : Table) (is : List PlainInst) (m n x y : ℕ) (r : Role) (i : PlainInst) → slice_get is m ≡ Some i
    → Some x ≡ option_and_then seen_id (slice_get i.operands n) → IsUsedAt G is m n y r → y ≡ x
one_used G is m n x y r i there e u = let k = use_other G i n y r (use_in G is m n y r i there u) in cc

-- the id of an operand of a slice
pub id_in : (os xs : List Operand) (n : ℕ) → xs ≡ os
    → option_and_then seen_id (slice_get (map plain_operand xs) n) ≡ option_and_then seen_id
    (slice_get (map plain_operand os) n)
id_in os xs n e = ap (λ (ys : List Operand). option_and_then seen_id (slice_get (map plain_operand ys) n)) e
