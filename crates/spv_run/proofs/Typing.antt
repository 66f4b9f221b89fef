-- Types: in a function the values that are used have declared types, and the rows hold with them; signatures; entry
-- points.
use Rattle.std.proofs.Common.{◌≡◌, ◌≢◌, ◌∙◌, ◌≤◌, ◌<◌, inl, inr, ℕ, suc, List, [], ◌∷◌, map, Option, Some, None, refl}
use Rattle.std.proofs.Common.{sym, ap, subst, arith, take}
use Rattle.std.specs.Prelude.{slice_get, option_and_then, option_map, IsSomeAnd}
use Rattle.std.proofs.lemmas.Bool.{cases_eq, cases_lt}
use Rattle.std.proofs.lemmas.Option.{none-some, same_Some}
use Rattle.spv_table.specs.Table.{Table}
use Rattle.spv_module.specs.Operand.{Plain, PlainInst, Id, type_in}
use Rattle.spv_module.specs.Operand as operand
use Rattle.spv_module.specs.Width.{definition_of, type_of}
use Rattle.spv_module.specs.declared.fault.Rule.{Rule}
use Rattle.spv_module.specs.declared.fault.Rule.TheVariants as rule
use Rattle.spv_layout.specs.Place.{IsDefinition}
use Rattle.spv_type_kinds.specs.Operands.{ids_in}
use Rattle.spv_type_forms.specs.Values.{types_of, paired_ids_in}
use Rattle.spv_ops.specs.Values as rows
use Rattle.spv_ops.specs.Table.{lines}
use Rattle.spv_ops.specs.Typed as operations
use Rattle.spv_ops.specs.Typed.{Typed}
use Rattle.spv_ops.specs.inner.Typed.{IsTypedIn}
use Rattle.spv_ops.proofs.Judged.{told}
use Rattle.spv_capabilities.specs.Keeps as capability_rules
use Rattle.spv_capabilities.specs.Entry.{IsSoundEntry, IsKernelFunction}
use Rattle.spv_type_rules.specs.Keeps as type_rules
use Rattle.spv_type_rules.specs.Function.{OfFunction, CallsTyped, ReturnsNothing, ReturnsTyped}
use Rattle.spv_type_rules.specs.inner.Function.{IsSoundCall}
use Rattle.spv_run.specs.Act.{Act, Pair, Parameter, FunctionEnd, Label, Call, ReturnValue, Other, act_of, pairs}
use Rattle.spv_run.specs.At.{act_at}
use Rattle.spv_run.specs.Head.{Binding, Head, end, parameter, line, IsDeclared}
use Rattle.spv_run.proofs.Place.{IsOf}
use Rattle.spv_run.proofs.LaidOut.{IsLaidOut}
use Rattle.spv_run.proofs.Fit.{AllFit, HasOneDefinition}
use Rattle.spv_run.specs.Row.{values_of, Row}
use Rattle.spv_run.proofs.Checked.{HaveTypes, IsTyped, HasEntries}
use Rattle.spv_run.proofs.Basics.{act_same}
use Rattle.spv_run.proofs.Places.{one_function}
use Rattle.spv_run.proofs.Frames.{label_after}
use Rattle.spv_run.proofs.Shapes.{View, view}
use Rattle.spv_run.proofs.Standing.{function_of, function_at, label_at, result_of}
use Rattle.spv_run.proofs.Rows.{some_and, and_some}

-- What the rules Y2 to Y8 demand is kept.
abbrev pub AreTyped : Table → List PlainInst → Type 0
AreTyped G is = (r : Rule) (n : ℕ) (i : PlainInst) → slice_get is n ≡ Some i
    → type_rules.Keeps (operations.IsTyped G is) is r n i

have_types : (is : List PlainInst) (xs ts : List ℕ) → types_of is xs ≡ Some ts → HaveTypes is xs ts
have_types is [] ts h = subst (λ us. HaveTypes is [] us) (same_Some [] ts h) tt
have_types is (x ∷ xs) ts h = by_type (λ us e. have_types is xs us e) (type_of is x) refl (types_of is xs) refl h where
  by_type : ((us : List ℕ) → types_of is xs ≡ Some us → HaveTypes is xs us) → (o : Option ℕ) → type_of is x ≡ o
      → (p : Option (List ℕ)) → types_of is xs ≡ p
      → option_and_then (λ t. option_map (λ us. t ∷ us) p) o ≡ Some ts → HaveTypes is (x ∷ xs) ts
  by_type more None e p f g = absurd (none-some ts g)
  by_type more (Some t) e None f g = absurd (none-some ts g)
  by_type more (Some t) e (Some us) f g =
      subst (λ vs. HaveTypes is (x ∷ xs) vs) (same_Some (t ∷ us) ts g) (e, more us f)

-- the types of values, and the row with them
pub record TypedHere (is : List PlainInst) (f n : ℕ) (i : PlainInst) (a : Act) : Type 0 where
  pub tags : List ℕ
  pub types : HaveTypes is (values_of i a) tags
  pub row : Row is f n i a tags

-- those of a row of Y5
by_row : (G : Table) (is : List PlainInst) → AllFit G is → AreTyped G is → (n : ℕ) (i : PlainInst)
    → slice_get is n ≡ Some i
    → (ts : List ℕ) × (types_of is (rows.values_of i) ≡ Some ts) × Typed is n i ts
by_row G is fits typed n i at =
    let judged : IsTypedIn is n i = (told G is n i at (fits n i at)).1
    (record { inst = i; there = at; typed = typed rule.Y5 n i at }) in
    some_and (λ ts. Typed is n i ts) (types_of is (rows.values_of i)) judged

pairs_ids : (os : List Plain) → map (λ (p : Pair). p.value) (pairs os) ≡ paired_ids_in os
pairs_ids (Id v ∷ Id l ∷ os) = ap (λ xs. v ∷ xs) (pairs_ids os)
pairs_ids _ = refl

-- of the function of an instruction
pub of_it : (G : Table) (is : List PlainInst) → AllFit G is → IsLaidOut is → (P : ℕ → PlainInst → Type 0) (f n : ℕ)
    → IsOf is f n → OfFunction is n P → IsSomeAnd (slice_get is f) (P f)
of_it G is fits laid P f n o h =
    let same : h.0 ≡ f = one_function is laid h.0 f n (function_of G is fits h.0 n h.1) o in
    subst (λ g. IsSomeAnd (slice_get is g) (P g)) same h.2

pub call_typed : (is : List PlainInst) (f n : ℕ) (i : PlainInst) (a b c : ℕ) (os : List Plain)
    → i.operands ≡ operand.OfType a ∷ operand.Result b ∷ operand.Id c ∷ os → IsSoundCall is i
    → TypedHere is f n i (Call c (ids_in os))
call_typed is f n i a b c os same h =
    let h' : IsSomeAnd (definition_of is c)
    (λ d. IsSomeAnd (types_of is (ids_in os)) (CallsTyped is d a)) = rw same at h in
    let d = some_and (λ d. IsSomeAnd (types_of is (ids_in os)) (CallsTyped is d a)) (definition_of is c) h' in
    let ts = some_and (CallsTyped is d.0 a) (types_of is (ids_in os)) d.2 in
    record {
      tags = ts.0;
      types = have_types is (ids_in os) ts.0 ts.1;
      row = and_some (λ d. IsSomeAnd (type_in i.operands) (λ r. CallsTyped is d r ts.0)) (definition_of is c) d.0 d.1
          (and_some (λ r. CallsTyped is d.0 r ts.0) (type_in i.operands) a (ap type_in same) ts.2);
    }

value_typed : (G : Table) (is : List PlainInst) → AllFit G is → IsLaidOut is → (f n : ℕ) (i : PlainInst) (x : ℕ)
    → IsOf is f n → i.operands ≡ operand.Id x ∷ []
    → OfFunction is n (λ f d. IsSomeAnd (types_of is (take 1 (ids_in i.operands))) (ReturnsTyped d))
    → TypedHere is f n i (ReturnValue x)
value_typed G is fits laid f n i x o same h =
    let here = of_it G is fits laid (λ f d. IsSomeAnd (types_of is (take 1 (ids_in i.operands))) (ReturnsTyped d)) f n o
    h in
    let d = some_and (λ d. IsSomeAnd (types_of is (take 1 (ids_in i.operands))) (ReturnsTyped d))
    (slice_get is f) here in
    let ts = some_and (ReturnsTyped d.0) (types_of is (take 1 (ids_in i.operands))) d.2 in
    let list : take 1 (ids_in i.operands) ≡ x ∷ [] = ap (λ os. take 1 (ids_in os)) same in
    record {
      tags = ts.0;
      types = have_types is (x ∷ []) ts.0 (sym (ap (types_of is) list) ∙ ts.1);
      row = and_some (λ d. ReturnsTyped d ts.0) (slice_get is f) d.0 d.1 ts.2;
    }

typed_view : (G : Table) (is : List PlainInst) → AllFit G is → IsLaidOut is → AreTyped G is
    → (f n : ℕ) (i : PlainInst) (a : Act) → IsOf is f n → slice_get is n ≡ Some i → View G i a → TypedHere is f n i a
unfolding lines
typed_view G is fits laid typed f n i _ o at (View.function a b k' m s e os) =
    record { tags = []; types = tt; row = tt }
typed_view G is fits laid typed f n i _ o at (View.parameter a b e os) = record { tags = []; types = tt; row = tt }
typed_view G is fits laid typed f n i _ o at (View.function_end e os) = record { tags = []; types = tt; row = tt }
typed_view G is fits laid typed f n i _ o at (View.label b e os) = record { tags = []; types = tt; row = tt }
typed_view G is fits laid typed f n i _ o at (View.branch y e same) = record { tags = []; types = tt; row = tt }
typed_view G is fits laid typed f n i _ o at (View.unreachable e os) = record { tags = []; types = tt; row = tt }
typed_view G is fits laid typed f n i _ o at (View.call a b c os gs e same en each) =
    call_typed is f n i a b c os same (typed rule.Y8 n i at e)
typed_view G is fits laid typed f n i _ o at (View.phi a b os gs e same en each) =
    let t = by_row G is fits typed n i at in
    let list : rows.values_of i ≡ map (λ (p : Pair). p.value) (pairs os) = rw (e, same) (sym (pairs_ids os)) in
    record {
      tags = t.0;
      types = have_types is (map (λ (p : Pair). p.value) (pairs os)) t.0
          (sym (ap (types_of is) list) ∙ t.1);
      row = t.2;
    }
typed_view G is fits laid typed f n i _ o at (View.condition s y z os gs e same en each) =
    let t = by_row G is fits typed n i at in
    let list : rows.values_of i ≡ s ∷ [] = rw (e, same) refl in
    record { tags = t.0; types = have_types is (s ∷ []) t.0 (sym (ap (types_of is) list) ∙ t.1); row = t.2 }
typed_view G is fits laid typed f n i _ o at (View.switch s y os gs e same en each) =
    let t = by_row G is fits typed n i at in
    let list : rows.values_of i ≡ s ∷ [] = rw (e, same) refl in
    record { tags = t.0; types = have_types is (s ∷ []) t.0 (sym (ap (types_of is) list) ∙ t.1); row = t.2 }
typed_view G is fits laid typed f n i _ o at (View.return e os) = record {
  tags = [];
  types = tt;
  row = of_it G is fits laid (λ f d. ReturnsNothing is d) f n o ((typed rule.Y7 n i at).nothing e);
}
typed_view G is fits laid typed f n i _ o at (View.value x e same) =
    value_typed G is fits laid f n i x o same ((typed rule.Y7 n i at).value e)
typed_view G is fits laid typed f n i _ o at (View.other e) =
    let t = by_row G is fits typed n i at in
    record { tags = t.0; types = have_types is (rows.values_of i) t.0 t.1; row = t.2 }

-- Y5, Y7, Y8
pub all_typed : (G : Table) (is : List PlainInst) → AllFit G is → IsLaidOut is → AreTyped G is → IsTyped is
all_typed G is fits laid typed = λ f n i o at.
    let t = typed_view G is fits laid typed f n i (act_of i) o at (view G i (fits n i at)) in
    (t.tags, t.types, t.row)

-- E2

head_inside : (is : List PlainInst) (e n : ℕ) (bs : List Binding) → Head is e n bs → (k : ℕ) → n ≤ k → k < e
    → act_at is k ≢ Some Label
head_inside is e _ _ end k l u h = absurd (omega (arith, l, u))
head_inside is e _ _ (parameter n x t bs a r y rest) k l u h = elim (cases_eq n k) [
  | inl same ↦ (let w = act_same is k Parameter Label (subst (λ j. act_at is j ≡ Some Parameter) same a) h in cc)
  | inr other ↦ head_inside is e (suc n) bs rest k (omega (arith, l, other)) u h
]
head_inside is e _ _ (line n bs a r rest) k l u h = elim (cases_eq n k) [
  | inl same ↦ (let w = act_same is k Other Label (subst (λ j. act_at is j ≡ Some Other) same a) h in cc)
  | inr other ↦ head_inside is e (suc n) bs rest k (omega (arith, l, other)) u h
]

pub head_from : (is : List PlainInst) (e n : ℕ) (bs : List Binding) → Head is e n bs → n ≤ e
head_from is e _ _ end = omega arith
head_from is e _ _ (parameter n x t bs a r y rest) = let w = head_from is e (suc n) bs rest in omega (arith, w)
head_from is e _ _ (line n bs a r rest) = let w = head_from is e (suc n) bs rest in omega (arith, w)

undeclared : (G : Table) (is : List PlainInst) → AllFit G is → (g e : ℕ) (bs : List Binding) → IsDefinition is g
    → ¬ (IsDeclared is g e bs)
undeclared G is fits g e bs d declared =
    let l = label_at G is fits d.label d.there in
    let o = function_of G is fits g d.label d.of in
    let after = label_after is g d.label o l in
    elim (cases_lt d.label e) [
      | inl less ↦ head_inside is e (suc g) bs declared.head d.label (omega (arith, after)) less l
      | inr more ↦ elim (cases_eq d.label e) [
        | inl same ↦ (let w = act_same is e Label FunctionEnd
            (subst (λ k. act_at is k ≡ Some Label) same l) declared.over in cc)
        | inr other ↦ (let w = head_from is e (suc g) bs declared.head in
            o.within e (omega (arith, w)) (omega (arith, more, other)) declared.over)
      ]
    ]

pub entry_of : (is : List PlainInst) (os : List Plain) (x : ℕ) → slice_get os 1 ≡ Some (Id x) → IsSoundEntry is os
    → IsKernelFunction is x
entry_of is (operand.Value k m ∷ operand.Id y ∷ os) x h s = let e : y ≡ x = cc in
    subst (λ z. IsKernelFunction is z) e s.1
entry_of is _ x h s = absurd s

pub has_entries : (G : Table) (is : List PlainInst) → AllFit G is → IsLaidOut is → HasOneDefinition is
    → ((r : Rule) (n : ℕ) (i : PlainInst) → slice_get is n ≡ Some i → capability_rules.Keeps G is r n i) → HasEntries is
has_entries G is fits laid once keeps = λ g entry.
    let k = entry_of is entry.inst.operands entry.id entry.named
    ((keeps rule.E2 entry.place entry.inst entry.there).entry entry.opcode) in
    let same : k.function ≡ g = once k.function g entry.id (result_of is k.function entry.id k.defined)
    (result_of is g entry.id entry.function) in
    let d : IsDefinition is g = subst (λ f. IsDefinition is f) same k.definition in
    let head = laid.heads g (function_at G is fits g d.of.begun.there) in
    elim head.2 [
      | inl defined ↦ (head.0, head.1, defined)
      | inr declared ↦ absurd (undeclared G is fits g head.0 head.1 d declared)
    ]
