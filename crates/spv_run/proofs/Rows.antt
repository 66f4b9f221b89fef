-- What the rows of types say of phis, calls and returns.
use Rattle.std.proofs.Common.{◌≡◌, ◌∙◌, inl, inr, ℕ, suc, List, [], ◌∷◌, map, true, nat_eq, if◌then◌else◌, Option, Some}
use Rattle.std.proofs.Common.{None, refl, sym, ap, subst, slice_get, length}
use Rattle.std.specs.Prelude.{IsSomeAnd}
use Rattle.std.specs.List.{AllByRecursion}
use Rattle.std.proofs.lemmas.Bool.{cases_Bool, eqb-true}
use Rattle.std.proofs.lemmas.Option.{none-some}
use Rattle.spv_table.specs.Table.{Table}
use Rattle.spv_module.specs.Operand.{Plain, PlainInst, Id, result_in, type_in}
use Rattle.spv_module.specs.Width.{has_result, or_else, definition_of}
use Rattle.spv_layout.specs.Shape.{FitsShape}
use Rattle.spv_type_forms.specs.Types.{IsData}
use Rattle.spv_type_kinds.specs.Operands.{result_type_in}
use Rattle.spv_conditions.specs.declared.asked.Asks.{Asks}
use Rattle.spv_conditions.specs.Asks.{HoldsOf, conditions_in}
use Rattle.spv_ops.specs.Table.{lines, asks_of}
use Rattle.spv_ops.specs.Typed.{Typed}
use Rattle.spv_ops.proofs.Parts.{phi_told}
use Rattle.spv_ops.proofs.Pointing.{phi_line}
use Rattle.spv_type_rules.specs.Function.{signature_of, CallsTyped, ReturnsNothing, ReturnsTyped}
use Rattle.spv_run.specs.Act.{Act, Function, Phi, Pair, act_of}
use Rattle.spv_run.specs.At.{type_at}
use Rattle.spv_run.proofs.Place.{IsFunction}
use Rattle.spv_run.specs.Row.{Row}
use Rattle.spv_run.proofs.Basics.{act_from, result_here, type_here}
use Rattle.spv_run.proofs.Shapes.{View, view}

pub some_and : {A : Type 0} (P : A → Type 0) (o : Option A) → IsSomeAnd o P → (x : A) × (o ≡ Some x) × P x
some_and P None h = absurd h
some_and P (Some x) h = (x, refl, h)

pub and_some : {A : Type 0} (P : A → Type 0) (o : Option A) (x : A) → o ≡ Some x → P x → IsSomeAnd o P
and_some P o x e h = rw e h

-- An OpPhi: its result type is a data type, and that of each value.
pub record PhiTyped (is : List PlainInst) (i : PlainInst) (tags : List ℕ) : Type 0 where
  pub of_type : ℕ
  pub result : type_in i.operands ≡ Some of_type
  pub data_type : IsData is of_type
  pub each : AllByRecursion (λ t. t ≡ of_type) tags

phi_view : (G : Table) (is : List PlainInst) (n : ℕ) (i : PlainInst) (a : Act) (ps : List Pair) (tags : List ℕ)
    → View G i a → a ≡ Phi ps → Typed is n i tags → PhiTyped is i tags
unfolding lines
phi_view G is n i _ ps tags (View.phi t b os gs e same en each) q h =
    let there : AllByRecursion (HoldsOf is n i (Some t) tags) (conditions_in phi_line (length tags)) = subst
    (λ r. AllByRecursion (HoldsOf is n i r tags) (conditions_in phi_line (length tags))) (ap result_type_in same)
    (subst (λ (line : List Asks). AllByRecursion (HoldsOf is n i (result_type_in i.operands) tags)
    (conditions_in line (length tags))) (ap asks_of e) h) in
    let told = (phi_told is n i t tags).1 there in
    record { of_type = t; result = ap type_in same; data_type = told.0; each = told.1 }
phi_view G is n i _ ps tags _ q h = cc

pub phi_typed : (G : Table) (is : List PlainInst) (n : ℕ) (i : PlainInst) (ps : List Pair) (tags : List ℕ)
    → FitsShape G i → act_of i ≡ Phi ps → Typed is n i tags → PhiTyped is i tags
phi_typed G is n i ps tags fits k h = phi_view G is n i (act_of i) ps tags (view G i fits) k h

typed_view : (G : Table) (is : List PlainInst) (n : ℕ) (i : PlainInst) (a : Act) (ps : List Pair) (tags : List ℕ)
    → View G i a → a ≡ Phi ps → PhiTyped is i tags → Typed is n i tags
unfolding lines
typed_view G is n i _ ps tags (View.phi t b os gs e same en each) q h =
    let one : Some t ≡ Some h.of_type = sym (ap type_in same) ∙ h.result in
    let typed : h.of_type ≡ t = cc in
    let there = (phi_told is n i t tags).0
    (subst (λ r. IsData is r × AllByRecursion (λ u. u ≡ r) tags) typed (h.data_type, h.each)) in
    subst (λ (line : List Asks). AllByRecursion (HoldsOf is n i (result_type_in i.operands) tags)
    (conditions_in line (length tags))) (sym (ap asks_of e))
    (subst (λ r. AllByRecursion (HoldsOf is n i r tags) (conditions_in phi_line (length tags)))
    (sym (ap result_type_in same)) there)
typed_view G is n i _ ps tags _ q h = cc

pub typed_phi : (G : Table) (is : List PlainInst) (n : ℕ) (i : PlainInst) (ps : List Pair) (tags : List ℕ)
    → FitsShape G i → act_of i ≡ Phi ps → PhiTyped is i tags → Typed is n i tags
typed_phi G is n i ps tags fits k h = typed_view G is n i (act_of i) ps tags (view G i fits) k h

-- Where an id's definition stands.
pub record Defines (is : List PlainInst) (x : ℕ) (i : PlainInst) : Type 0 where
  pub place : ℕ
  pub there : slice_get is place ≡ Some i
  pub result : result_in i.operands ≡ Some x

has_it : (o : Option ℕ) (x : ℕ) → has_result o x ≡ true → o ≡ Some x
has_it None x h = cc
has_it (Some r) x h = ap Some (eqb-true r x h)

later : (j : PlainInst) (is : List PlainInst) (x : ℕ) (i : PlainInst) → Defines is x i → Defines (j ∷ is) x i
later j is x i d = record { place = suc d.place; there = d.there; result = d.result }

pub defines : (is : List PlainInst) (x : ℕ) (i : PlainInst) → definition_of is x ≡ Some i → Defines is x i
defines [] x i h = absurd (none-some i h)
defines (j ∷ is) x i h = by_rest (λ e. defines is x i e) (definition_of is x) refl h where
  by_rest : (definition_of is x ≡ Some i → Defines is x i) → (o : Option PlainInst) → definition_of is x ≡ o
      → or_else o (if has_result (result_in j.operands) x then Some j else None) ≡ Some i → Defines (j ∷ is) x i
  by_rest more (Some k) e g = later j is x i (more (e ∙ g))
  by_rest more None e g = elim (cases_Bool (has_result (result_in j.operands) x)) [
    | inl b ↦ (
        let same : Some j ≡ Some i = rw b at g in
        let one : j ≡ i = cc in
        record {
          place = 0;
          there = same;
          result = ap (λ (k : PlainInst). result_in k.operands) (sym one)
              ∙ has_it (result_in j.operands) x b;
        })
    | inr b ↦ (let no : None ≡ Some i = rw b at g in absurd (none-some i no))
  ]

-- A call of a function that has this signature.
pub record CallFits (is : List PlainInst) (x : ℕ) (result : Option ℕ) (tags : List ℕ) : Type 0 where
  pub callee : ℕ
  pub inst : PlainInst
  pub there : slice_get is callee ≡ Some inst
  pub function : IsFunction is callee x
  pub returns : ℕ
  pub returned : result ≡ Some returns
  pub signature : signature_of is inst ≡ Some (map Id (returns ∷ tags))

function_by : (is : List PlainInst) (d : PlainInst) (ts : List Plain) → signature_of is d ≡ Some ts
    → act_of d ≡ Function
unfolding act_of
function_by is d ts h = elim (cases_Bool (nat_eq d.opcode 54)) [
  | inl e ↦ rw e refl
  | inr e ↦ (let no : None ≡ Some ts = rw e at h in absurd (none-some ts no))
]

pub call_fits : (is : List PlainInst) (f n : ℕ) (i : PlainInst) (x : ℕ) (xs tags : List ℕ)
    → Row is f n i (Act.Call x xs) tags → CallFits is x (type_in i.operands) tags
call_fits is f n i x xs tags row =
    let d = some_and (λ d. IsSomeAnd (type_in i.operands) (λ r. CallsTyped is d r tags)) (definition_of is x) row in
    let r = some_and (λ r. CallsTyped is d.0 r tags) (type_in i.operands) d.2 in
    let at = defines is x d.0 d.1 in
    record {
      callee = at.place;
      inst = d.0;
      there = at.there;
      function = record {
        act = act_from is at.place d.0 Function at.there
            (function_by is d.0 (map Id (r.0 ∷ tags)) r.2);
        result = result_here is at.place d.0 at.there ∙ at.result;
      };
      returns = r.0;
      returned = r.1;
      signature = r.2;
    }

pub same_head : (a b : Plain) (xs ys : List Plain) → a ∷ xs ≡ b ∷ ys → a ≡ b
same_head a b xs ys e = cc

pub ids_same : (xs ys : List ℕ) → map Id xs ≡ map Id ys → xs ≡ ys
ids_same [] [] e = refl
ids_same [] (y ∷ ys) e = cc
ids_same (x ∷ xs) [] e = cc
ids_same (x ∷ xs) (y ∷ ys) e =
    let h : Id x ≡ Id y = cc in
    let k : x ≡ y = cc in
    let t : map Id xs ≡ map Id ys = cc in
    ap (λ z. z ∷ xs) k ∙ ap (λ zs. y ∷ zs) (ids_same xs ys t)

-- What a function returns.
pub returned_nothing : (is : List PlainInst) (f : ℕ) → IsSomeAnd (slice_get is f) (λ d. ReturnsNothing is d)
    → (t : ℕ) × (type_at is f ≡ Some t)
returned_nothing is f row =
    let d = some_and (λ d. ReturnsNothing is d) (slice_get is f) row in
    let t = some_and _ (type_in d.0.operands) d.2 in
    (t.0, type_here is f d.0 d.1 ∙ t.1)

pub returned_value : (is : List PlainInst) (f : ℕ) (tags : List ℕ)
    → IsSomeAnd (slice_get is f) (λ d. ReturnsTyped d tags) → (t : ℕ) × (tags ≡ t ∷ []) × (type_at is f ≡ Some t)
returned_value is f tags row =
    let d = some_and (λ d. ReturnsTyped d tags) (slice_get is f) row in
    by_tags tags d.0 d.1 d.2 where
      by_tags : (ts : List ℕ) (d : PlainInst) → slice_get is f ≡ Some d → ReturnsTyped d ts
          → (t : ℕ) × (ts ≡ t ∷ []) × (type_at is f ≡ Some t)
      by_tags [] d at r = absurd r
      by_tags (o ∷ []) d at r = (o, refl, type_here is f d at ∙ r)
      by_tags (o ∷ p ∷ ts) d at r = absurd r
