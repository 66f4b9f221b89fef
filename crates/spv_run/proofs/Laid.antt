-- A list whose instructions fit their rows, and which is in the layout, is laid out in functions and blocks.
use Rattle.std.proofs.Common.{◌≡◌, ◌≢◌, ◌∙◌, ◌≤◌, ◌<◌, ◌+◌, ◌⊎◌, inl, inr, ℕ, zero, suc, List, [], ◌∷◌, Bool, true}
use Rattle.std.proofs.Common.{false, not, ◌&&◌, ◌||◌, IsTrue, Some, None, refl, sym, ap, subst, arith, length}
use Rattle.std.specs.Prelude.{slice_get}
use Rattle.std.proofs.lemmas.Bool.{cases_Bool, cases_order}
use Rattle.std.proofs.lemmas.Option.{slice_get_within}
use Rattle.spv_table.specs.Table.{Table}
use Rattle.spv_module.specs.Operand.{PlainInst, result_in, type_in}
use Rattle.spv_layout.specs.declared.class.Class.{Class}
use Rattle.spv_layout.specs.declared.state.State.{State}
use Rattle.spv_layout.specs.declared.state.State.TheVariants as at
use Rattle.spv_layout.specs.Rows.{class_of}
use Rattle.spv_layout.specs.Layout.{IsLayout, classes}
use Rattle.spv_layout.proofs.Derivatives.{both_hold}
use Rattle.spv_run.specs.Act.{Act, Pair, Function, Parameter, FunctionEnd, Label, Phi, Other, act_of}
use Rattle.spv_run.specs.At.{act_at, result_at, type_at}
use Rattle.spv_run.specs.inner.At.{goes_on, in_block}
use Rattle.spv_run.specs.Head.{Binding, Head, end, parameter, line, IsDefined, IsDeclared}
use Rattle.spv_run.proofs.Place.{IsOf, IsIn}
use Rattle.spv_run.proofs.LaidOut.{IsLaidOut}
use Rattle.spv_run.proofs.Fit.{AllFit}
use Rattle.spv_run.proofs.Basics.{act_here, act_back, act_from, act_same, result_here, type_here}
use Rattle.spv_run.proofs.Places.{of_next, in_next, below_cases}
use Rattle.spv_run.proofs.Shapes.{View, view}
use Rattle.spv_run.proofs.Classes.{Tests, tests, act_function, act_end, act_label, line_result, end_result}
use Rattle.spv_run.proofs.Passing.{Passes, moved, one_state, goes_further, within, fine_move, implies, in_head}
use Rattle.spv_run.proofs.Passing.{in_function, in_a_block, in_entry, a_function, an_end, a_label, a_phi, of_head}
use Rattle.spv_run.proofs.Passing.{a_terminator, of_block}

pub implied : (a b : Bool) → implies a b ≡ true → a ≡ true → b ≡ true
implied true b h e = h
implied false b h e = cc

both : (a b : Bool) → a ≡ true → b ≡ true → (a && b) ≡ true
both a b e f = rw (e, f) refl

not_true : (b : Bool) → not b ≡ true → b ≡ false
not_true true h = cc
not_true false h = refl

head_function : (s : State) → in_head s ≡ true → in_function s ≡ true
head_function at.Function h = refl
head_function at.Definition h = refl
head_function _ h = cc

block_function : (s : State) → in_a_block s ≡ true → in_function s ≡ true
block_function at.Variables h = refl
block_function at.Phis h = refl
block_function at.Body h = refl
block_function at.LoopMerge h = refl
block_function at.SelectionMerge h = refl
block_function _ h = cc

pub is_label_act : (a : Act) → act_label a ≡ true → a ≡ Label
is_label_act Label h = refl
is_label_act _ h = cc

pub is_end_act : (a : Act) → act_end a ≡ true → a ≡ FunctionEnd
is_end_act FunctionEnd h = refl
is_end_act _ h = cc

pub is_function_act : (a : Act) → act_function a ≡ true → a ≡ Function
is_function_act Function h = refl
is_function_act _ h = cc

-- an instruction of what it is to a run, with what its class says
pub record Inst (is : List PlainInst) (n : ℕ) (a : Act) : Type 0 where
  pub inst : PlainInst
  pub there : slice_get is n ≡ Some inst
  pub tests : Tests (class_of inst.opcode) a
  pub kind : act_of inst ≡ a

pub inst_of : (G : Table) (is : List PlainInst) → AllFit G is → (n : ℕ) (a : Act) → act_at is n ≡ Some a → Inst is n a
inst_of G is fits n a h =
    let i = act_back is n a h in
    record {
      inst = i.0;
      there = i.1;
      tests = subst (λ b. Tests (class_of i.0.opcode) b) i.2
          (tests G i.0 (fits n i.0 i.1));
      kind = i.2;
    }

-- the class of instruction n, and what it does, where another reading has the same instruction
same_inst : (is : List PlainInst) (n : ℕ) (i j : PlainInst) → slice_get is n ≡ Some i → slice_get is n ≡ Some j → i ≡ j
same_inst is n i j g h = cc

class_tests : (G : Table) (is : List PlainInst) → AllFit G is → (n : ℕ) (i : PlainInst) (a : Act)
    → slice_get is n ≡ Some i → act_at is n ≡ Some a → Tests (class_of i.opcode) a
class_tests G is fits n i a at h =
    let x = inst_of G is fits n a h in
    subst (λ j. Tests (class_of j.opcode) a) (same_inst is n x.inst i x.there at) x.tests

not_end : (G : Table) (is : List PlainInst) → AllFit G is → (n : ℕ) (i : PlainInst) → slice_get is n ≡ Some i
    → act_at is n ≢ Some FunctionEnd → not (an_end (class_of i.opcode)) ≡ true
not_end G is fits n i at h = by_end (an_end (class_of i.opcode)) refl where
  by_end : (b : Bool) → an_end (class_of i.opcode) ≡ b → not b ≡ true
  by_end false e = refl
  by_end true e = absurd (h (act_from is n i FunctionEnd at
      (is_end_act (act_of i) (sym (tests G i (fits n i at)).over ∙ e))))

-- Heads.

record Headed (is : List PlainInst) (n : ℕ) : Type 0 where
  pub place : ℕ
  pub parameters : List Binding
  pub head : Head is place n parameters
  pub ends : (act_at is place ≡ Some Label) ⊎ (act_at is place ≡ Some FunctionEnd)

parameter_of : (G : Table) (is : List PlainInst) → (n : ℕ) (i : PlainInst) (a : Act) → slice_get is n ≡ Some i
    → act_of i ≡ a → View G i a → a ≡ Parameter
    → (b t : ℕ) × (result_at is n ≡ Some b) × (type_at is n ≡ Some t)
parameter_of G is n i _ at k (View.parameter t b e os) h =
    (b, t, result_here is n i at ∙ ap result_in os, type_here is n i at ∙ ap type_in os)
parameter_of G is n i _ at k _ h = cc

parameter_head : (G : Table) (is : List PlainInst) → AllFit G is → (n : ℕ) (i : PlainInst) → slice_get is n ≡ Some i
    → act_of i ≡ Parameter → Headed is (suc n) → Headed is n
parameter_head G is fits n i at k h =
    let v = parameter_of G is n i (act_of i) at refl (view G i (fits n i at)) k in
    record {
      place = h.place;
      parameters = record { id = v.0; tag = v.1 } ∷ h.parameters;
      head = parameter n v.0 v.1 h.parameters (act_from is n i Parameter at k) v.2 v.3 h.head;
      ends = h.ends;
    }

line_head : (G : Table) (is : List PlainInst) → AllFit G is → (n : ℕ) (i : PlainInst) → slice_get is n ≡ Some i
    → act_of i ≡ Other → result_in i.operands ≡ None → Headed is (suc n) → Headed is n
line_head G is fits n i at k r h = record {
  place = h.place;
  parameters = h.parameters;
  head = line n h.parameters (act_from is n i Other at k) (result_here is n i at ∙ r) h.head;
  ends = h.ends;
}

or_cases : (a b c : Bool) → (a || b || c) ≡ true → (a ≡ true) ⊎ ((b ≡ true) ⊎ (c ≡ true))
or_cases true b c h = inl refl
or_cases false true c h = inr (inl refl)
or_cases false false c h = inr (inr h)

head_from : (G : Table) (is : List PlainInst) → AllFit G is → IsLayout (classes is) → (fuel n : ℕ) (s : State)
    → Passes is n s → in_head s ≡ true → length is ≤ n + fuel → Headed is n
head_from G is fits laid zero n s p h l =
    let i = goes_further is laid n s (within is n s p) p (head_function s h) in
    let w = slice_get_within is n i.0 i.1 in
    absurd (omega (arith, l, w))
head_from G is fits laid (suc fuel) n s p h l =
    let found = goes_further is laid n s (within is n s p) p (head_function s h) in
    let i = found.0 in
    let m = moved is laid n i found.1 in
    let same : m.state ≡ s = one_state is n n m.state s m.before p refl in
    let c = class_of i.opcode in
    let t = tests G i (fits n i found.1) in
    let here : in_head m.state ≡ true = ap in_head same ∙ h in
    elim (or_cases (of_head c) (a_label c) (an_end c)
    (implied (in_head m.state) (of_head c || a_label c || an_end c) m.fine.head here)) [
      | inl e ↦ (
          let later = head_from G is fits laid fuel (suc n) m.after m.passes
          (implied (in_head m.state && of_head c) (in_head m.after) m.fine.head_goes
          (both (in_head m.state) (of_head c) here e)) (omega (arith, l)) in
          elim (t.head e) [
            | inl k ↦ parameter_head G is fits n i found.1 k later
            | inr k ↦ line_head G is fits n i found.1 k.0 (line_result G i (fits n i found.1) k.1) later
          ])
      | inr o ↦ elim o [
        | inl e ↦ record {
          place = n;
          parameters = [];
          head = end;
          ends = inl (act_from is n i Label found.1 (is_label_act (act_of i) (sym t.label ∙ e)));
        }
        | inr e ↦ record {
          place = n;
          parameters = [];
          head = end;
          ends = inr (act_from is n i FunctionEnd found.1 (is_end_act (act_of i) (sym t.over ∙ e)));
        }
      ]
    ]

heads : (G : Table) (is : List PlainInst) → AllFit G is → IsLayout (classes is) → (g : ℕ) → act_at is g ≡ Some Function
    → (e : ℕ) × (bs : List Binding) × (IsDefined is g e bs ⊎ IsDeclared is g e bs)
heads G is fits laid g h =
    let x = inst_of G is fits g Function h in
    let m = moved is laid g x.inst x.there in
    let begins : in_head m.after ≡ true = implied (a_function (class_of x.inst.opcode))
    (in_head m.after) m.fine.begins x.tests.function in
    let r = head_from G is fits laid (length is) (suc g) m.after m.passes begins (omega arith) in (
      r.place,
      r.parameters,
      elim r.ends [
        | inl e ↦ inl (record { function = h; head = r.head; entry = e })
        | inr e ↦ inr (record { function = h; head = r.head; over = e })
      ],
    )

-- Functions.

of_earlier : (is : List PlainInst) (f n : ℕ) → IsOf is f (suc n) → f ≤ n → IsOf is f n
of_earlier is f n o h = record { function = o.function; from = h; within = λ k l u. o.within k l (omega (arith, u)) }

open_at : (G : Table) (is : List PlainInst) → AllFit G is → (f n : ℕ) (s : State) → Passes is n s → IsOf is f n → f < n
    → in_function s ≡ true
open_at G is fits f _ _ Passes.start o l = absurd (omega (arith, l))
open_at G is fits f _ _ (Passes.step n s t i p h e) o l =
    let fine = fine_move s (class_of i.opcode) t e in
    elim (below_cases f n l) [
      | inl same ↦ (
          let c = class_tests G is fits n i Function h (subst (λ k. act_at is k ≡ Some Function) same o.function) in
          head_function t (implied (a_function (class_of i.opcode)) (in_head t) fine.begins c.function))
      | inr less ↦ (
          let before = open_at G is fits f n s p (of_earlier is f n o (omega (arith, less))) less in
          let no = not_end G is fits n i h (o.within n (omega (arith, less)) (omega arith)) in
          implied (in_function s && not (an_end (class_of i.opcode))) (in_function t) fine.function_goes
          (both (in_function s) (not (an_end (class_of i.opcode))) before no))
    ]

apart : (G : Table) (is : List PlainInst) → AllFit G is → IsLayout (classes is) → (f g : ℕ) → IsOf is f g
    → act_at is g ≡ Some Function → f ≡ g
apart G is fits laid f g o h = elim (cases_order f g) [
  | inl e ↦ e
  | inr r ↦ elim r [
    | inl less ↦ (
        let x = inst_of G is fits g Function h in
        let m = moved is laid g x.inst x.there in
        let opened = open_at G is fits f g m.state m.before o less in
        let no = implied (in_function m.state) (not (a_function (class_of x.inst.opcode))) m.fine.no_function opened in
        absurd (let w : not true ≡ true = ap not (sym x.tests.function) ∙ no in cc))
    | inr more ↦ (let w = o.from in absurd (omega (arith, w, more)))
  ]
]

record Home (is : List PlainInst) (n : ℕ) : Type 0 where
  pub function : ℕ
  pub inside : IsOf is function n

home : (G : Table) (is : List PlainInst) → AllFit G is → (n : ℕ) (s : State) → Passes is n s → in_function s ≡ true
    → Home is n
home G is fits _ _ Passes.start h = cc
home G is fits _ _ (Passes.step n s t i p at e) h =
    let fine = fine_move s (class_of i.opcode) t e in
    elim (cases_Bool (a_function (class_of i.opcode))) [
      | inl f ↦ (
          let here = act_from is n i Function at
          (is_function_act (act_of i) (sym (tests G i (fits n i at)).function ∙ f)) in
          record {
            function = n;
            inside = of_next is n n Function
                (record { function = here; from = omega arith; within = λ k l u. absurd (omega (arith, l, u)) }) here
                refl;
          })
      | inr f ↦ (
          let two = both_hold (in_function s) (not (an_end (class_of i.opcode)))
          (implied (in_function t && not (a_function (class_of i.opcode)))
          (in_function s && not (an_end (class_of i.opcode))) fine.back
          (both (in_function t) (not (a_function (class_of i.opcode))) h (ap not f))) in
          let before = home G is fits n s p two.0 in
          let x = before.inside in
          record {
            function = before.function;
            inside = record {
              function = x.function;
              from = (let w = x.from in omega (arith, w));
              within = λ k l u. elim (below_cases k n u) [
                | inl same ↦ subst (λ j. act_at is j ≢ Some FunctionEnd) (sym same) (no_end n i at two.1)
                | inr less ↦ x.within k l less
              ];
            };
          })
    ] where
      no_end : (n : ℕ) (i : PlainInst) → slice_get is n ≡ Some i → not (an_end (class_of i.opcode)) ≡ true
          → act_at is n ≢ Some FunctionEnd
      no_end n i at isnt g =
          let c = class_tests G is fits n i FunctionEnd at g in
          let w : not true ≡ true = ap not (sym c.over) ∙ isnt in cc

label_of : (G : Table) (i : PlainInst) (a : Act) → View G i a → a ≡ Label
    → (x : ℕ) × (result_in i.operands ≡ Some x) × (type_in i.operands ≡ None)
label_of G i _ (View.label b e os) h = (b, ap result_in os, ap type_in os)
label_of G i _ _ h = cc

labels : (G : Table) (is : List PlainInst) → AllFit G is → IsLayout (classes is) → (b : ℕ) → act_at is b ≡ Some Label
    → (f x : ℕ) × IsOf is f b × (result_at is b ≡ Some x) × (type_at is b ≡ None)
labels G is fits laid b h =
    let x = inst_of G is fits b Label h in
    let m = moved is laid b x.inst x.there in
    let two = both_hold (in_function m.state) (in_a_block m.after)
    (implied (a_label (class_of x.inst.opcode))
    (in_function m.state && in_a_block m.after) m.fine.label x.tests.label) in
    let f = home G is fits b m.state m.before two.0 in
    let v = label_of G x.inst (act_of x.inst) (view G x.inst (fits b x.inst x.there)) x.kind in
    (f.function, v.0, f.inside, result_here is b x.inst x.there ∙ v.1, type_here is b x.inst x.there ∙ v.2)

-- Blocks.

in_earlier : (is : List PlainInst) (b n : ℕ) → IsIn is b (suc n) → b ≤ n → IsIn is b n
in_earlier is b n o h = record { label = o.label; from = h; within = λ k l u. o.within k l (omega (arith, u)) }

pub not_terminator : (c : Class) (a : Act) → Tests c a → IsTrue (goes_on a) → not (a_terminator c) ≡ true
not_terminator c a t g = by_test (a_terminator c) (an_end c) (sym t.goes ∙ g) where
  by_test : (x y : Bool) → not (x || y) ≡ true → not x ≡ true
  by_test true y e = cc
  by_test false y e = refl

goes_here : (G : Table) (is : List PlainInst) → AllFit G is → (b n : ℕ) (i : PlainInst) → IsIn is b (suc n) → b ≤ n
    → slice_get is n ≡ Some i → not (a_terminator (class_of i.opcode)) ≡ true
goes_here G is fits b n i o l h =
    not_terminator (class_of i.opcode) (act_of i) (tests G i (fits n i h))
    (o.within n l (omega arith) (act_of i) (act_here is n i h))

pub block_at : (G : Table) (is : List PlainInst) → AllFit G is → (b n : ℕ) (s : State) → Passes is n s → IsIn is b n
    → b < n → in_a_block s ≡ true
block_at G is fits b _ _ Passes.start o l = absurd (omega (arith, l))
block_at G is fits b _ _ (Passes.step n s t i p h e) o l =
    let fine = fine_move s (class_of i.opcode) t e in
    elim (below_cases b n l) [
      | inl same ↦ (
          let c = class_tests G is fits n i Label h (subst (λ k. act_at is k ≡ Some Label) same o.label) in
          (both_hold (in_function s) (in_a_block t)
          (implied (a_label (class_of i.opcode)) (in_function s && in_a_block t) fine.label c.label)).1)
      | inr less ↦ (
          let before = block_at G is fits b n s p (in_earlier is b n o (omega (arith, less))) less in
          implied (in_a_block s && not (a_terminator (class_of i.opcode))) (in_a_block t) fine.block_goes
          (both (in_a_block s) (not (a_terminator (class_of i.opcode))) before
          (goes_here G is fits b n i o (omega (arith, less)) h)))
    ]

blocks : (G : Table) (is : List PlainInst) → AllFit G is → IsLayout (classes is) → (b n : ℕ) (a : Act) → IsIn is b n
    → act_at is n ≡ Some a → IsTrue (goes_on a)
    → (c : Act) × (act_at is (suc n) ≡ Some c) × IsTrue (in_block c)
blocks G is fits laid b n a o h g =
    let x = inst_of G is fits n a h in
    let m = moved is laid n x.inst x.there in
    let from = o.from in
    let opened = block_at G is fits b (suc n) m.after m.passes (in_next is b n a o h g) (omega (arith, from)) in
    let next = goes_further is laid (suc n) m.after (within is (suc n) m.after m.passes) m.passes
    (block_function m.after opened) in
    let k = moved is laid (suc n) next.0 next.1 in
    let same : k.state ≡ m.after = one_state is (suc n) (suc n) k.state m.after k.before m.passes refl in
    let may = implied (in_a_block k.state) (of_block (class_of next.0.opcode)) k.fine.block
    (ap in_a_block same ∙ opened) in
    (act_of next.0, act_here is (suc n) next.0 next.1, (tests G next.0 (fits (suc n) next.0 next.1)).block may)

ends : (G : Table) (is : List PlainInst) → AllFit G is → (n : ℕ) (a : Act) → act_at is n ≡ Some a → goes_on a ≡ false
    → result_at is n ≡ None
ends G is fits n a h g =
    let i = act_back is n a h in
    result_here is n i.0 i.1 ∙ end_result G i.0 (act_of i.0) (view G i.0 (fits n i.0 i.1)) (ap goes_on i.2 ∙ g)

-- Entry blocks.

record HeadState (is : List PlainInst) (e : ℕ) : Type 0 where
  pub state : State
  pub passes : Passes is e state
  pub opened : in_head state ≡ true

head_goes : (G : Table) (is : List PlainInst) → AllFit G is → IsLayout (classes is) → (n : ℕ) (a : Act) (s : State)
    → act_at is n ≡ Some a → act_label a ≡ false → act_end a ≡ false
    → Passes is n s → in_head s ≡ true → HeadState is (suc n)
head_goes G is fits laid n a s h nl ne p o =
    let x = inst_of G is fits n a h in
    let m = moved is laid n x.inst x.there in
    let same : m.state ≡ s = one_state is n n m.state s m.before p refl in
    let here : in_head m.state ≡ true = ap in_head same ∙ o in
    let c = class_of x.inst.opcode in
    let e : of_head c ≡ true = elim (or_cases (of_head c) (a_label c) (an_end c)
    (implied (in_head m.state) (of_head c || a_label c || an_end c) m.fine.head here)) [
      | inl e ↦ e
      | inr q ↦ elim q [
        | inl e ↦ absurd (let w : true ≡ false = sym e ∙ (x.tests.label ∙ nl) in cc)
        | inr e ↦ absurd (let w : true ≡ false = sym e ∙ (x.tests.over ∙ ne) in cc)
      ]
    ] in
    record {
      state = m.after;
      passes = m.passes;
      opened = implied (in_head m.state && of_head c) (in_head m.after) m.fine.head_goes
          (both (in_head m.state) (of_head c) here e);
    }

head_state : (G : Table) (is : List PlainInst) → AllFit G is → IsLayout (classes is) → (e n : ℕ) (bs : List Binding)
    → Head is e n bs → (s : State) → Passes is n s → in_head s ≡ true → HeadState is e
head_state G is fits laid e _ _ end s p o = record { state = s; passes = p; opened = o }
head_state G is fits laid e _ _ (parameter n x t bs h r y rest) s p o =
    let k = head_goes G is fits laid n Parameter s h refl refl p o in
    head_state G is fits laid e (suc n) bs rest k.state k.passes k.opened
head_state G is fits laid e _ _ (line n bs h r rest) s p o =
    let k = head_goes G is fits laid n Other s h refl refl p o in
    head_state G is fits laid e (suc n) bs rest k.state k.passes k.opened

entry_state : (G : Table) (is : List PlainInst) → AllFit G is → IsLayout (classes is) → (g e : ℕ) (bs : List Binding)
    → IsDefined is g e bs → (s : State) → Passes is (suc e) s → in_entry s ≡ true
entry_state G is fits laid g e bs d s p =
    let x = inst_of G is fits g Function d.function in
    let m = moved is laid g x.inst x.there in
    let begins : in_head m.after ≡ true = implied (a_function (class_of x.inst.opcode))
    (in_head m.after) m.fine.begins x.tests.function in
    let k = head_state G is fits laid e (suc g) bs d.head m.after m.passes begins in
    let y = inst_of G is fits e Label d.entry in
    let o = moved is laid e y.inst y.there in
    let before : o.state ≡ k.state = one_state is e e o.state k.state o.before k.passes refl in
    let after : o.after ≡ s = one_state is (suc e) (suc e) o.after s o.passes p refl in
    let c = class_of y.inst.opcode in
    sym (ap in_entry after) ∙ implied (a_label c && in_head o.state) (in_entry o.after) o.fine.entry
    (both (a_label c) (in_head o.state) y.tests.label (ap in_head before ∙ k.opened))

entry_at : (G : Table) (is : List PlainInst) → AllFit G is → (e n : ℕ)
    → ((s : State) → Passes is (suc e) s → in_entry s ≡ true) → (s : State) → Passes is n s → IsIn is e n → e < n
    → in_entry s ≡ true
entry_at G is fits e _ first _ Passes.start o l = absurd (omega (arith, l))
entry_at G is fits e _ first _ (Passes.step n s t i p h g) o l =
    let fine = fine_move s (class_of i.opcode) t g in
    elim (below_cases e n l) [
      | inl same ↦ first t (subst (λ k. Passes is (suc k) t) (sym same) (Passes.step n s t i p h g))
      | inr less ↦ (
          let before = entry_at G is fits e n first s p (in_earlier is e n o (omega (arith, less))) less in
          implied (in_entry s && not (a_terminator (class_of i.opcode))) (in_entry t) fine.entry_goes
          (both (in_entry s) (not (a_terminator (class_of i.opcode))) before
          (goes_here G is fits e n i o (omega (arith, less)) h)))
    ]

phis : (G : Table) (is : List PlainInst) → AllFit G is → IsLayout (classes is)
    → (g e n : ℕ) (bs : List Binding) (ps : List Pair) → IsDefined is g e bs → IsIn is e n → act_at is n ≢ Some (Phi ps)
phis G is fits laid g e n bs ps d o h =
    let x = inst_of G is fits n (Phi ps) h in
    let m = moved is laid n x.inst x.there in
    let less : e < n = elim (cases_order e n) [
      | inl same ↦ absurd (let w = act_same is n Label (Phi ps)
          (subst (λ k. act_at is k ≡ Some Label) same d.entry) h in cc)
      | inr r ↦ elim r [ inl l ↦ l | inr more ↦ (let w = o.from in absurd (omega (arith, w, more))) ]
    ] in
    let opened = entry_at G is fits e n (entry_state G is fits laid g e bs d) m.state m.before o less in
    let no = implied (in_entry m.state) (not (a_phi (class_of x.inst.opcode))) m.fine.no_phi opened in
    let w : not true ≡ true = ap not (sym x.tests.phi) ∙ no in
    cc

pub laid_out : (G : Table) (is : List PlainInst) → AllFit G is → IsLayout (classes is) → IsLaidOut is
laid_out G is fits laid = record {
  heads = heads G is fits laid;
  apart = apart G is fits laid;
  labels = labels G is fits laid;
  blocks = blocks G is fits laid;
  ends = ends G is fits;
  phis = phis G is fits laid;
}
