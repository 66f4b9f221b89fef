-- A frame stands at the end of a walk of its function, and what is defined on the walk is bound to its declared type.
use Rattle.std.proofs.Common.{◌≡◌, ◌≤◌, ◌<◌, ◌∙◌, ◌⊎◌, inl, inr, ℕ, zero, suc, List, [], ◌∷◌, true, false, IsTrue}
use Rattle.std.proofs.Common.{Option, Some, None, refl, sym, ap, subst, arith, Contains}
use Rattle.std.proofs.lemmas.Option.{same_Some, none-some}
use Rattle.std.proofs.lemmas.Bool.{cases_eq, cases_order}
use Rattle.spv_module.specs.Operand.{PlainInst}
use Rattle.spv_module.specs.Width.{type_of}
use Rattle.spv_run.specs.Act.{Act, Function, FunctionEnd, Label}
use Rattle.spv_run.specs.At.{act_at, result_at, type_at}
use Rattle.spv_run.specs.inner.At.{targets, goes_on, in_block}
use Rattle.spv_run.specs.Head.{Binding, IsDefined}
use Rattle.spv_run.proofs.Place.{IsOf, IsIn, IsLocalTo, IsLocal, IsLabel}
use Rattle.spv_run.proofs.Walk.{follows, jumps, Walk, Defined, is_label, before_label, last_label}
use Rattle.spv_run.specs.State.{Frame, bound_type, bind, advance, jump, enter}
use Rattle.spv_run.proofs.LaidOut.{IsLaidOut}
use Rattle.spv_run.proofs.Fit.{HasOneDefinition}
use Rattle.spv_run.proofs.Flow.{IsPredecessor}
use Rattle.spv_run.proofs.Basics.{act_same, bound_first, bound_other, type_of_result}
use Rattle.spv_run.proofs.Places.{of_next, in_next, in_start, label_true, label_false, in_block_no_label, Headed}
use Rattle.spv_run.proofs.Places.{headed}

-- where the frame's block was come from: from nowhere, as the entry, or from a predecessor
pub data Came (is : List PlainInst) (f : ℕ) (from : Option ℕ) (b : ℕ) : Type 0 where
  at_entry : (bs : List Binding) → from ≡ None → IsDefined is f b bs → Came is f from b
  by_jump : (p : ℕ) → from ≡ Some p → IsPredecessor is p b → Came is f from b

-- The frame stands at the end of a walk of its function, in a block; the block come from is that of the walk; exactly
-- the
-- local values defined on the walk are bound, to their declared types.
pub record Stands (is : List PlainInst) (fr : Frame) : Type 0 where
  pub past : List ℕ
  pub walk : Walk is fr.function past fr.position
  pub inside : IsOf is fr.function fr.position
  pub after : fr.function < fr.position
  pub block : ℕ
  pub here : IsIn is block fr.position
  pub act : Act
  pub there : act_at is fr.position ≡ Some act
  pub fit : (act ≡ Label) ⊎ IsTrue (in_block act)
  pub last : last_label is (fr.position ∷ past) ≡ Some block
  pub came : fr.came_from ≡ last_label is (before_label is past fr.position)
  pub source : Came is fr.function fr.came_from block
  pub bound : (x t : ℕ) → bound_type fr.bound x ≡ Some t
      → Defined is past x × IsLocalTo is fr.function x × (type_of is x ≡ Some t)
  pub defined : (x t : ℕ) → Defined is past x → IsLocal is x → type_of is x ≡ Some t → bound_type fr.bound x ≡ Some t

before_at : (is : List PlainInst) (past : List ℕ) (n : ℕ) → is_label is n ≡ true → before_label is past n ≡ past
before_at is [] n h = refl
before_at is (k ∷ past) n h = rw h refl

last_at : (is : List PlainInst) (past : List ℕ) (n : ℕ) → is_label is n ≡ true → last_label is (n ∷ past) ≡ Some n
last_at is past n h = rw h refl

last_not : (is : List PlainInst) (past : List ℕ) (n : ℕ) → is_label is n ≡ false
    → last_label is (n ∷ past) ≡ last_label is past
last_not is past n h = rw h refl

before_not : (is : List PlainInst) (past : List ℕ) (h n : ℕ) → is_label is n ≡ false
    → before_label is (h ∷ past) n ≡ before_label is past h
before_not is past h n e = rw e refl

pub no_function : Label ≡ Function → ⊥
no_function e = let w : in_block Label ≡ goes_on FunctionEnd = refl in cc

no_label : Function ≡ Label → ⊥
no_label e = no_function (sym e)

-- the id of a function is not local
function_not_local : (is : List PlainInst) → IsLaidOut is → HasOneDefinition is → (g x : ℕ)
    → act_at is g ≡ Some Function → result_at is g ≡ Some x → ¬ (IsLocal is x)
function_not_local is laid once g x h r l =
    let local = l.1 in
    let same : local.place ≡ g = once local.place g x local.result r in
    let P : ℕ → Type 0 = λ k. IsOf is l.0 k in
    let e : l.0 ≡ g = laid.apart l.0 g (subst P same local.inside) h in
    let w = local.after in
    omega (arith, w, e, same)

-- at the entry of a function, with its parameters bound to their types
pub enters : (is : List PlainInst) → IsLaidOut is → HasOneDefinition is → (g e : ℕ) (bs : List Binding)
    → IsDefined is g e bs → Stands is (enter g e bs)
enters is laid once g e bs d =
    let walk : Walk is g (g ∷ []) (suc g) = (follows Function d.function refl refl, (refl, d.function)) in
    let alone : IsOf is g g = record {
      function = d.function;
      from = omega arith;
      within = λ k l u. absurd (omega (arith, l, u));
    } in
    let none : last_label is (g ∷ []) ≡ None = last_not is [] g (label_false is g Function d.function no_label) in
    let r : Headed is g e (g ∷ []) bs = headed is once g e (suc g) bs d.head (g ∷ []) walk none
    (of_next is g g Function alone d.function refl) (omega arith) in
    let label = label_true is e d.entry in
    record {
      past = r.places;
      walk = r.walk;
      inside = r.inside;
      after = r.after;
      block = e;
      here = in_start is e d.entry;
      act = Label;
      there = d.entry;
      fit = inl refl;
      last = last_at is r.places e label;
      came = sym (ap (last_label is) (before_at is r.places e label) ∙ r.none);
      source = at_entry bs refl d;
      bound = r.bound;
      defined = λ x t p l h. elim (r.defined x t p h) [
        | inl before ↦ elim before [
          | inl there ↦
              absurd (function_not_local is laid once g x d.function there l)
          | inr never ↦ absurd never
        ]
        | inr bound ↦ bound
      ];
    }

bound_after : (is : List PlainInst) → HasOneDefinition is → (fr : Frame) → Stands is fr → (past : List ℕ)
    → ((x : ℕ) → Defined is past x → Defined is (fr.position ∷ past) x)
    → ((x t : ℕ) → bound_type fr.bound x ≡ Some t
    → Defined is past x × IsLocalTo is fr.function x × (type_of is x ≡ Some t))
    → (o tag : Option ℕ) → result_at is fr.position ≡ o → type_at is fr.position ≡ tag
    → (x t : ℕ) → bound_type (bind o tag fr.bound) x ≡ Some t
    → Defined is (fr.position ∷ past) x × IsLocalTo is fr.function x × (type_of is x ≡ Some t)
bound_after is once fr st past more old None tag r y x t b = let p = old x t b in (more x p.0, p.1, p.2)
bound_after is once fr st past more old (Some z) None r y x t b = let p = old x t b in (more x p.0, p.1, p.2)
bound_after is once fr st past more old (Some z) (Some s) r y x t b = elim (cases_eq z x) [
  | inl same ↦ (
      let there : Some s ≡ Some t = sym (bound_first z s fr.bound)
      ∙ (ap (bound_type (record { id = z; tag = s } ∷ fr.bound)) same ∙ b) in
      let P : ℕ → Type 0 = λ v. Defined is (fr.position ∷ past) v × IsLocalTo is fr.function v
      × (type_of is v ≡ Some t) in
      subst P same (
        inl r,
        record { place = fr.position; after = st.after; inside = st.inside; result = r },
        type_of_result is once fr.position z r ∙ (y ∙ there),
      ))
  | inr other ↦ (let p = old x t (sym (bound_other z s x fr.bound other) ∙ b) in (more x p.0, p.1, p.2))
]

defined_after : (is : List PlainInst) → HasOneDefinition is → (fr : Frame) → (past : List ℕ)
    → ((x t : ℕ) → Defined is past x → IsLocal is x → type_of is x ≡ Some t → bound_type fr.bound x ≡ Some t)
    → (o tag : Option ℕ) → result_at is fr.position ≡ o → type_at is fr.position ≡ tag
    → (x t : ℕ) → Defined is (fr.position ∷ past) x → IsLocal is x → type_of is x ≡ Some t
    → bound_type (bind o tag fr.bound) x ≡ Some t
defined_after is once fr past old None tag r y x t d l h = elim d [
  | inl here ↦ absurd (none-some x (sym r ∙ here))
  | inr before ↦ old x t before l h
]
defined_after is once fr past old (Some z) None r y x t d l h = elim d [
  | inl here ↦ absurd (none-some t (sym y ∙ (sym (type_of_result is once fr.position x here) ∙ h)))
  | inr before ↦ old x t before l h
]
defined_after is once fr past old (Some z) (Some s) r y x t d l h = elim (cases_eq z x) [
  | inl same ↦ (
      let there : Some s ≡ Some t = sym y ∙
      (sym (type_of_result is once fr.position z r) ∙ (ap (type_of is) same ∙ h)) in
      sym (ap (bound_type (record { id = z; tag = s } ∷ fr.bound)) same) ∙ (bound_first z s fr.bound ∙ there))
  | inr other ↦ bound_other z s x fr.bound other ∙ elim d [
    | inl here ↦ absurd (other (same_Some z x (sym r ∙ here)))
    | inr before ↦ old x t before l h
  ]
]

-- after an instruction that goes on, with its result bound to its declared type
pub advances : (is : List PlainInst) → IsLaidOut is → HasOneDefinition is → (fr : Frame) → Stands is fr → (a : Act)
    → act_at is fr.position ≡ Some a → IsTrue (goes_on a)
    → (tag : Option ℕ) → type_at is fr.position ≡ tag → Stands is (advance is fr tag)
advances is laid once fr st a h goes tag y =
    let next = laid.blocks st.block fr.position a st.here h goes in
    let plain : is_label is (suc fr.position) ≡ false = label_false is (suc fr.position) next.0 next.1
    (in_block_no_label next.0 next.2) in
    record {
      past = fr.position ∷ st.past;
      walk = (follows a h goes refl, st.walk);
      inside = of_next is fr.function fr.position a st.inside h goes;
      after = let w = st.after in omega (arith, w);
      block = st.block;
      here = in_next is st.block fr.position a st.here h goes;
      act = next.0;
      there = next.1;
      fit = inr next.2;
      last = last_not is (fr.position ∷ st.past) (suc fr.position) plain ∙ st.last;
      came = st.came ∙ sym (ap (last_label is) (before_not is st.past fr.position (suc fr.position) plain));
      source = st.source;
      bound = bound_after is once fr st st.past (λ x d. inr d) st.bound (result_at is fr.position) tag refl y;
      defined = defined_after is once fr st.past st.defined (result_at is fr.position) tag refl y;
    }

-- the acts of a block after its label
inner : (is : List PlainInst) → IsLaidOut is → (b n : ℕ) → IsIn is b n → (k : ℕ) → b < k → k ≤ n
    → (c : Act) × (act_at is k ≡ Some c) × IsTrue (in_block c)
inner is laid b n i zero l u = absurd (omega (arith, l))
inner is laid b n i (suc k) l u =
    let part : b ≤ k → IsIn is b k = λ m. record
    { label = i.label; from = m; within = λ j p q. i.within j p (omega (arith, q, u)) } in
    elim (cases_order b k) [
      | inl same ↦ (
          let P : ℕ → Type 0 = λ j. act_at is j ≡ Some Label in
          laid.blocks b k Label (part (omega (arith, same))) (subst P same i.label) refl)
      | inr o ↦ elim o [
        | inl less ↦ (
            let r = inner is laid b n i k less (omega (arith, u)) in
            laid.blocks b k r.0 (part (omega (arith, less))) r.1
            (i.within k (omega (arith, less)) (omega (arith, u)) r.0 r.1))
        | inr more ↦ absurd (omega (arith, l, more))
      ]
    ]

no_later : (is : List PlainInst) → IsLaidOut is → (b c n : ℕ) → IsIn is b n → IsIn is c n → b < c → ⊥
no_later is laid b c n i j l = let r = inner is laid b n i c l j.from in
    in_block_no_label r.0 r.2 (act_same is c r.0 Label r.1 j.label)

-- an instruction is in one block
pub one_block : (is : List PlainInst) → IsLaidOut is → (b c n : ℕ) → IsIn is b n → IsIn is c n → b ≡ c
one_block is laid b c n i j = elim (cases_order b c) [
  | inl e ↦ e
  | inr o ↦ elim o [ inl l ↦ absurd (no_later is laid b c n i j l) | inr m ↦ absurd (no_later is laid c b n j i m) ]
]

pub label_after : (is : List PlainInst) (f m : ℕ) → IsOf is f m → act_at is m ≡ Some Label → f < m
label_after is f m o h = elim (cases_order f m) [
  | inl e ↦ (let P : ℕ → Type 0 = λ k. act_at is k ≡ Some Function in
      absurd (no_function (act_same is m Label Function h (subst P e o.function))))
  | inr c ↦ elim c [ inl l ↦ l | inr g ↦ (let w = o.from in absurd (omega (arith, w, g))) ]
]

-- at the label of a target
pub jumped : (is : List PlainInst) → IsLaidOut is → (fr : Frame) → Stands is fr → (a : Act) (x : ℕ)
    → act_at is fr.position ≡ Some a → goes_on a ≡ false → Contains (targets a) x
    → (b m : ℕ) → IsIn is b fr.position → IsLabel is m x → IsOf is fr.function m → Stands is (jump fr b m)
jumped is laid fr st a x h stops target b m leaves label inside =
    let is_one : is_label is m ≡ true = label_true is m label.act in
    let same : st.block ≡ b = one_block is laid st.block b fr.position st.here leaves in
    let no_result : result_at is fr.position ≡ None = laid.ends fr.position a h stops in
    record {
      past = fr.position ∷ st.past;
      walk = (jumps a x h target label, st.walk);
      inside = inside;
      after = label_after is fr.function m inside label.act;
      block = m;
      here = in_start is m label.act;
      act = Label;
      there = label.act;
      fit = inl refl;
      last = last_at is (fr.position ∷ st.past) m is_one;
      came = sym (ap (last_label is) (before_at is (fr.position ∷ st.past) m is_one) ∙ (st.last ∙ ap Some same));
      source = by_jump b refl (record {
        place = fr.position;
        inside = leaves;
        act = a;
        there = h;
        label = x;
        target = target;
        block = label;
      });
      bound = λ z t w. let p = st.bound z t w in (inr p.0, p.1, p.2);
      defined = λ z t d l w. elim d [
        | inl here ↦ absurd (none-some z (sym no_result ∙ here))
        | inr before ↦
            st.defined z t before l w
      ];
    }
