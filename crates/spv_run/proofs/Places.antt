-- Functions, blocks and heads.
use Rattle.std.proofs.Common.{◌≡◌, ◌≢◌, ◌≤◌, ◌<◌, ◌∙◌, ◌⊎◌, inl, inr, ℕ, suc, List, ◌∷◌, true, false, IsTrue, Some}
use Rattle.std.proofs.Common.{None, refl, sym, ap, subst, arith}
use Rattle.std.proofs.lemmas.Option.{same_Some, none-some}
use Rattle.std.proofs.lemmas.Bool.{cases_eq, cases_order}
use Rattle.spv_module.specs.Operand.{PlainInst}
use Rattle.spv_module.specs.Width.{type_of}
use Rattle.spv_run.specs.Act.{Act, Parameter, FunctionEnd, Label, Other}
use Rattle.spv_run.specs.At.{act_at}
use Rattle.spv_run.specs.inner.At.{goes_on, in_block}
use Rattle.spv_run.specs.Head.{Binding, Head, end, parameter, line}
use Rattle.spv_run.proofs.Place.{IsOf, IsIn, IsLocalTo}
use Rattle.spv_run.proofs.Walk.{follows, Walk, Defined, is_label, label_in, last_label}
use Rattle.spv_run.specs.State.{bound_type}
use Rattle.spv_run.proofs.LaidOut.{IsLaidOut}
use Rattle.spv_run.proofs.Fit.{HasOneDefinition}
use Rattle.spv_run.proofs.Basics.{act_same, bound_first, bound_other, type_of_result}

-- what goes on is no end of a function
pub goes_no_end : (is : List PlainInst) (n : ℕ) (a : Act) → act_at is n ≡ Some a → IsTrue (goes_on a)
    → act_at is n ≢ Some FunctionEnd
goes_no_end is n a h t g = let w : goes_on a ≡ false = ap goes_on (act_same is n a FunctionEnd h g) in cc

pub below_cases : (k n : ℕ) → k < suc n → (k ≡ n) ⊎ (k < n)
below_cases k n h = elim (cases_order k n) [
  | inl e ↦ inl e
  | inr o ↦ elim o [ inl l ↦ inr l | inr g ↦ absurd (omega arith) ]
]

pub of_next : (is : List PlainInst) (f n : ℕ) (a : Act) → IsOf is f n → act_at is n ≡ Some a → IsTrue (goes_on a)
    → IsOf is f (suc n)
of_next is f n a o h t = record {
  function = o.function;
  from = omega (arith, o.from);
  within = λ k l u. elim (below_cases k n u) [
    | inl e ↦ (let P : ℕ → Type 0 = λ m. act_at is m ≢ Some FunctionEnd in subst P (sym e) (goes_no_end is n a h t))
    | inr g ↦ o.within k l g
  ];
}

pub in_next : (is : List PlainInst) (b n : ℕ) (a : Act) → IsIn is b n → act_at is n ≡ Some a → IsTrue (goes_on a)
    → IsIn is b (suc n)
in_next is b n a o h t = record {
  label = o.label;
  from = omega (arith, o.from);
  within = λ k l u c g. elim (below_cases k n u) [
    | inl e ↦ (
        let P : ℕ → Type 0 = λ m. act_at is m ≡ Some c in
        let same : a ≡ c = act_same is n a c h (subst P e g) in
        let Q : Act → Type 0 = λ d. IsTrue (goes_on d) in subst Q same t)
    | inr m ↦ o.within k l m c g
  ];
}

pub in_start : (is : List PlainInst) (b : ℕ) → act_at is b ≡ Some Label → IsIn is b b
in_start is b h = record { label = h; from = omega arith; within = λ k l u c g. absurd (omega (arith, l, u)) }

earlier : (is : List PlainInst) (f g n : ℕ) → IsOf is f n → IsOf is g n → f ≤ g → IsOf is f g
earlier is f g n a b h =
    record { function = a.function; from = h; within = λ k l u. let w = b.from in a.within k l (omega (arith, u, w)) }

-- an instruction is of one function
pub one_function : (is : List PlainInst) → IsLaidOut is → (f g n : ℕ) → IsOf is f n → IsOf is g n → f ≡ g
one_function is laid f g n a b = elim (cases_order f g) [
  | inl e ↦ e
  | inr o ↦ elim o [
    | inl l ↦ laid.apart f g (earlier is f g n a b (omega (arith, l))) b.function
    | inr m ↦ sym (laid.apart g f (earlier is g f n b a (omega (arith, m))) a.function)
  ]
]

pub label_true : (is : List PlainInst) (n : ℕ) → act_at is n ≡ Some Label → is_label is n ≡ true
unfolding is_label
label_true is n h = ap label_in h

not_label : (a : Act) → (a ≡ Label → ⊥) → label_in (Some a) ≡ false
not_label Label h = absurd (h refl)
not_label _ h = refl

pub label_false : (is : List PlainInst) (n : ℕ) (a : Act) → act_at is n ≡ Some a → (a ≡ Label → ⊥)
    → is_label is n ≡ false
unfolding is_label
label_false is n a h g = ap label_in h ∙ not_label a g

pub in_block_no_label : (a : Act) → IsTrue (in_block a) → a ≡ Label → ⊥
in_block_no_label a h e = let w : in_block a ≡ false = ap in_block e in cc

-- what a function's head comes to
pub record Headed (is : List PlainInst) (g e : ℕ) (past : List ℕ) (bs : List Binding) : Type 0 where
  pub places : List ℕ
  pub walk : Walk is g places e
  pub none : last_label is places ≡ None
  pub inside : IsOf is g e
  pub after : g < e
  pub bound : (x t : ℕ) → bound_type bs x ≡ Some t → Defined is places x × IsLocalTo is g x × (type_of is x ≡ Some t)
  pub defined : (x t : ℕ) → Defined is places x → type_of is x ≡ Some t → Defined is past x ⊎ (bound_type bs x ≡ Some t)
  pub kept : (x : ℕ) → Defined is past x → Defined is places x

no_label_here : (is : List PlainInst) (n : ℕ) (a : Act) (past : List ℕ) → act_at is n ≡ Some a → (a ≡ Label → ⊥)
    → last_label is past ≡ None → last_label is (n ∷ past) ≡ None
no_label_here is n a past h g l = let e = label_false is n a h g in rw e l

pub headed : (is : List PlainInst) → HasOneDefinition is → (g e n : ℕ) (bs : List Binding) → Head is e n bs
    → (past : List ℕ) → Walk is g past n → last_label is past ≡ None → IsOf is g n → g < n → Headed is g e past bs
headed is once g e _ _ end past w l o a = record {
  places = past;
  walk = w;
  none = l;
  inside = o;
  after = a;
  bound = λ x t h. absurd (none-some t h);
  defined = λ x t d h. inl d;
  kept = λ x d. d;
}
headed is once g e _ _ (parameter n x t bs h r y rest) past w l o a =
    let next : Walk is g (n ∷ past) (suc n) = (follows Parameter h refl refl, w) in
    let none : last_label is (n ∷ past) ≡ None = no_label_here is n Parameter past h label_is_not l in
    let more = headed is once g e (suc n) bs rest (n ∷ past) next none (of_next is g n Parameter o h refl)
    (omega (arith, a)) in
    let has : type_of is x ≡ Some t = type_of_result is once n x r ∙ y in
    record {
      places = more.places;
      walk = more.walk;
      none = more.none;
      inside = more.inside;
      after = more.after;
      bound = λ z s b. elim (cases_eq x z) [
        | inl same ↦ (
            let there : Some t ≡ Some s = sym (bound_first x t bs)
            ∙ (ap (bound_type (record { id = x; tag = t } ∷ bs)) same ∙ b) in
            let P : ℕ → Type 0 = λ v. Defined is more.places v × IsLocalTo is g v × (type_of is v ≡ Some s) in
            subst P same (more.kept x (inl r), record { place = n; after = a; inside = o; result = r }, has ∙ there))
        | inr other ↦ more.bound z s (sym (bound_other x t z bs other) ∙ b)
      ];
      defined = λ z s d q. elim (cases_eq x z) [
        | inl same ↦ (
            let there : Some t ≡ Some s = sym has ∙ (ap (type_of is) same ∙ q) in
            inr (sym (ap (bound_type (record { id = x; tag = t } ∷ bs)) same) ∙ (bound_first x t bs ∙ there)))
        | inr other ↦ elim (more.defined z s d q) [
          | inl before ↦ elim before [
            | inl here ↦ absurd (other (same_Some x z (sym r ∙ here)))
            | inr earlier ↦
                inl earlier
          ]
          | inr later ↦ inr (bound_other x t z bs other ∙ later)
        ]
      ];
      kept = λ z d. more.kept z (inr d);
    } where
      label_is_not : Parameter ≡ Label → ⊥
      label_is_not z = let q : label_in (Some Parameter) ≡ label_in (Some Label) = ap (λ c. label_in (Some c)) z in cc
headed is once g e _ bs (line n _ h r rest) past w l o a =
    let next : Walk is g (n ∷ past) (suc n) = (follows Other h refl refl, w) in
    let none : last_label is (n ∷ past) ≡ None = no_label_here is n Other past h label_is_not l in
    let more = headed is once g e (suc n) bs rest (n ∷ past) next none (of_next is g n Other o h refl)
    (omega (arith, a)) in
    record {
      places = more.places;
      walk = more.walk;
      none = more.none;
      inside = more.inside;
      after = more.after;
      bound = more.bound;
      defined = λ z s d q. elim (more.defined z s d q) [
        | inl before ↦ elim before [ inl here ↦ absurd (none-some z (sym r ∙ here)) | inr earlier ↦ inl earlier ]
        | inr later ↦ inr later
      ];
      kept = λ z d. more.kept z (inr d);
    } where
      label_is_not : Other ≡ Label → ⊥
      label_is_not z = let q : label_in (Some Other) ≡ label_in (Some Label) = ap (λ c. label_in (Some c)) z in cc
