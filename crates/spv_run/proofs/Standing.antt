-- Functions, blocks, local ids and labels are those of the layers below.
use Rattle.std.proofs.Common.{◌≡◌, ◌≢◌, ◌∙◌, ◌≤◌, ◌<◌, ◌+◌, ◌-◌, inl, inr, ℕ, zero, suc, List, [], ◌∷◌, Bool, true}
use Rattle.std.proofs.Common.{false, not, ◌||◌, Option, Some, None, refl, sym, ap, subst, arith, length}
use Rattle.std.specs.Prelude.{slice_get, option_map}
use Rattle.std.proofs.lemmas.Bool.{cases_lt, eqb-true}
use Rattle.std.proofs.lemmas.Option.{slice_get-map, slice_get_within, none-some}
use Rattle.spv_table.specs.Table.{Table}
use Rattle.spv_module.specs.Operand.{PlainInst}
use Rattle.spv_module.specs.declared.opcode.TheConstants as opcode
use Rattle.spv_layout.specs.declared.class.Class.{Class}
use Rattle.spv_layout.specs.declared.class.Class.TheVariants as class
use Rattle.spv_layout.specs.Class.{is_among}
use Rattle.spv_layout.specs.Rows.{class_of}
use Rattle.spv_layout.specs.Layout.{IsLayout, classes}
use Rattle.spv_layout.specs.Place.{IsAt, IsOfFunction, IsOfBlock, IsDefinition, terminators}
use Rattle.spv_ids.specs.Definition as ids
use Rattle.spv_ids.specs.Definition.{IsDefinedAt}
use Rattle.spv_flow.specs.branches.Target as target
use Rattle.spv_flow.specs.branches.Target.{IsOp, IsLabelOf}
use Rattle.spv_run.specs.Act.{Act, Function, FunctionEnd, Label, act_of}
use Rattle.spv_flow.proofs.lemmas.walks.Ended.{class_at}
use Rattle.spv_run.specs.At.{act_at, result_at}
use Rattle.spv_run.specs.inner.At.{goes_on}
use Rattle.spv_run.proofs.Place.{IsOf, IsIn, IsLocalTo, IsLocal, IsLabel}
use Rattle.spv_run.proofs.LaidOut.{IsLaidOut}
use Rattle.spv_run.proofs.Fit.{AllFit}
use Rattle.spv_run.proofs.Basics.{act_here, act_back, act_from, act_same, result_here, some_result}
use Rattle.spv_run.proofs.Places.{in_next, in_start, one_function, goes_no_end}
use Rattle.spv_run.proofs.Frames.{one_block}
use Rattle.spv_run.proofs.Shapes.{View, view}
use Rattle.spv_run.proofs.Classes.{tests, act_end}
use Rattle.spv_run.proofs.Laid.{inst_of, block_at, implied, is_function_act, is_end_act, is_label_act, not_terminator}
use Rattle.spv_run.proofs.Passing.{moved, in_a_block, of_block, a_terminator, an_end}

is_at : (is : List PlainInst) (n : ℕ) (i : PlainInst) (cs : List Class) → slice_get is n ≡ Some i
    → is_among (class_of i.opcode) cs ≡ true → IsAt is n cs
is_at is n i cs h e = rw (class_at is n i h, e) refl

record At (is : List PlainInst) (n : ℕ) (cs : List Class) : Type 0 where
  pub inst : PlainInst
  pub there : slice_get is n ≡ Some inst
  pub among : is_among (class_of inst.opcode) cs ≡ true

at_is : (is : List PlainInst) (n : ℕ) (cs : List Class) → IsAt is n cs → At is n cs
at_is is n cs a = by_inst (slice_get is n) refl where
  by_inst : (o : Option PlainInst) → slice_get is n ≡ o → At is n cs
  by_inst None e =
      let none : slice_get (classes is) n ≡ None = slice_get-map (λ j. class_of j.opcode) is n
      ∙ ap (option_map (λ j. class_of j.opcode)) e in
      absurd (rw none at a)
  by_inst (Some i) e = record { inst = i; there = e; among = rw (class_at is n i e) at a }

inst_there : (is : List PlainInst) (k : ℕ) → k < length is → (i : PlainInst) × (slice_get is k ≡ Some i)
inst_there [] k h = absurd (omega (arith, h))
inst_there (j ∷ is) zero h = (j, refl)
inst_there (j ∷ is) (suc k) h = inst_there is k (omega (arith, h))

pub at_function : (G : Table) (is : List PlainInst) → AllFit G is → (n : ℕ) → act_at is n ≡ Some Function
    → IsAt is n (class.Function ∷ [])
at_function G is fits n h = let x = inst_of G is fits n Function h in
    is_at is n x.inst (class.Function ∷ []) x.there x.tests.function

pub function_at : (G : Table) (is : List PlainInst) → AllFit G is → (n : ℕ) → IsAt is n (class.Function ∷ [])
    → act_at is n ≡ Some Function
function_at G is fits n h =
    let x = at_is is n (class.Function ∷ []) h in
    act_from is n x.inst Function x.there (is_function_act (act_of x.inst)
    (sym (tests G x.inst (fits n x.inst x.there)).function ∙ x.among))

pub at_end : (G : Table) (is : List PlainInst) → AllFit G is → (n : ℕ) → act_at is n ≡ Some FunctionEnd
    → IsAt is n (class.FunctionEnd ∷ [])
at_end G is fits n h = let x = inst_of G is fits n FunctionEnd h in
    is_at is n x.inst (class.FunctionEnd ∷ []) x.there x.tests.over

pub end_at : (G : Table) (is : List PlainInst) → AllFit G is → (n : ℕ) → IsAt is n (class.FunctionEnd ∷ [])
    → act_at is n ≡ Some FunctionEnd
end_at G is fits n h =
    let x = at_is is n (class.FunctionEnd ∷ []) h in
    act_from is n x.inst FunctionEnd x.there
    (is_end_act (act_of x.inst) (sym (tests G x.inst (fits n x.inst x.there)).over ∙ x.among))

pub at_label : (G : Table) (is : List PlainInst) → AllFit G is → (n : ℕ) → act_at is n ≡ Some Label
    → IsAt is n (class.Label ∷ [])
at_label G is fits n h = let x = inst_of G is fits n Label h in
    is_at is n x.inst (class.Label ∷ []) x.there x.tests.label

pub label_at : (G : Table) (is : List PlainInst) → AllFit G is → (n : ℕ) → IsAt is n (class.Label ∷ [])
    → act_at is n ≡ Some Label
label_at G is fits n h =
    let x = at_is is n (class.Label ∷ []) h in
    act_from is n x.inst Label x.there (is_label_act (act_of x.inst)
    (sym (tests G x.inst (fits n x.inst x.there)).label ∙ x.among))

pub here_within : (is : List PlainInst) (n : ℕ) (a : Act) → act_at is n ≡ Some a → n < length is
here_within is n a h = let i = act_back is n a h in slice_get_within is n i.0 i.1

-- Functions.

of_part : (is : List PlainInst) (f k n : ℕ) → IsOf is f n → f ≤ k → k ≤ n → IsOf is f k
of_part is f k n o l u =
    record { function = o.function; from = l; within = λ j p q. o.within j p (omega (arith, q, u)) }

pub of_function : (G : Table) (is : List PlainInst) → AllFit G is → IsLaidOut is → (f n : ℕ) → IsOf is f n
    → n < length is → IsOfFunction is n f
of_function G is fits laid f n o w = record {
  begun = record {
    within = w;
    up_to = o.from;
    there = at_function G is fits f o.function;
    last = λ k l u a.
        let same : f ≡ k = laid.apart f k (of_part is f k n o (omega (arith, l)) u) (function_at G is fits k a) in
        omega (arith, l, same);
  };
  not_ended = λ k l u a. o.within k l u (end_at G is fits k a);
}

pub function_of : (G : Table) (is : List PlainInst) → AllFit G is → (f n : ℕ) → IsOfFunction is n f → IsOf is f n
function_of G is fits f n o = record {
  function = function_at G is fits f o.begun.there;
  from = o.begun.up_to;
  within = λ k l u e. o.not_ended k l u (at_end G is fits k e);
}

-- Blocks.

in_part : (is : List PlainInst) (b k n : ℕ) → IsIn is b n → act_at is k ≡ Some Label → b ≤ k → k ≤ n → IsIn is k n
in_part is b k n o h l u = record { label = h; from = u; within = λ j p q. o.within j (omega (arith, l, p)) q }

pub block_place : (G : Table) (is : List PlainInst) → AllFit G is → IsLaidOut is → (b n : ℕ) → IsIn is b n
    → n < length is → IsOfBlock is n b
block_place G is fits laid b n o w = record {
  begun = record {
    within = w;
    up_to = o.from;
    there = at_label G is fits b o.label;
    last = λ k l u a.
        let same : b ≡ k = one_block is laid b k n o
        (in_part is b k n o (label_at G is fits k a) (omega (arith, l)) u) in
        omega (arith, l, same);
  };
  not_ended = λ k l u a.
      let x = at_is is k terminators a in
      let t = tests G x.inst (fits k x.inst x.there) in
      let goes = o.within k l u (act_of x.inst) (act_here is k x.inst x.there) in
      let no : not (a_terminator (class_of x.inst.opcode)) ≡ true = not_terminator (class_of x.inst.opcode)
      (act_of x.inst) t goes in
      let w : not true ≡ true = ap not (sym x.among) ∙ no in
      cc;
}

not_end_of_block : (c : Class) → of_block c ≡ true → an_end c ≡ false
not_end_of_block class.FunctionEnd h = cc
not_end_of_block _ h = refl

block_from : (G : Table) (is : List PlainInst) → AllFit G is → IsLayout (classes is) → (b n d : ℕ) → IsOfBlock is n b
    → b + d ≤ n → IsIn is b (b + d)
block_from G is fits laid b n zero o l =
    let e : b ≡ b + zero = omega arith in
    subst (λ k. IsIn is b k) e (in_start is b (label_at G is fits b o.begun.there))
block_from G is fits laid b n (suc d) o l =
    let before = block_from G is fits laid b n d o (omega (arith, l)) in
    let w = o.begun.within in
    let i = inst_there is (b + d) (omega (arith, l, w)) in
    let goes : goes_on (act_of i.0) ≡ true = going i.0 i.1 before in
    let e : suc (b + d) ≡ b + suc d = omega arith in
    subst (λ k. IsIn is b k) e (in_next is b (b + d) (act_of i.0) before (act_here is (b + d) i.0 i.1) goes)
  where
    both_false : (x y : Bool) → x ≡ false → y ≡ false → not (x || y) ≡ true
    both_false x y e f = rw (e, f) refl

    no_terminator : (i : PlainInst) → slice_get is (b + d) ≡ Some i → (x : Bool) → a_terminator (class_of i.opcode) ≡ x
        → x ≡ false
    no_terminator i at false e = refl
    no_terminator i at true e =
        absurd (o.not_ended (b + d) (omega arith) (omega (arith, l)) (is_at is (b + d) i terminators at e))

    no_end : (i : PlainInst) → slice_get is (b + d) ≡ Some i → IsIn is b (b + d) → an_end (class_of i.opcode) ≡ false
    no_end i at before = elim (cases_lt b (b + d)) [
      | inl less ↦ (
          let m = moved is laid (b + d) i at in
          not_end_of_block (class_of i.opcode)
          (implied (in_a_block m.state) (of_block (class_of i.opcode)) m.fine.block
          (block_at G is fits b (b + d) m.state m.before before less)))
      | inr more ↦ (
          let same : b ≡ b + d = omega (arith, more) in
          let h : act_at is (b + d) ≡ Some Label = subst (λ k. act_at is k ≡ Some Label) same before.label in
          let kind : act_of i ≡ Label = act_same is (b + d) (act_of i) Label (act_here is (b + d) i at) h in
          (tests G i (fits (b + d) i at)).over ∙ ap act_end kind)
    ]

    going : (i : PlainInst) → slice_get is (b + d) ≡ Some i → IsIn is b (b + d) → goes_on (act_of i) ≡ true
    going i at before = (tests G i (fits (b + d) i at)).goes
        ∙ both_false (a_terminator (class_of i.opcode)) (an_end (class_of i.opcode))
        (no_terminator i at (a_terminator (class_of i.opcode)) refl) (no_end i at before)

pub block_of : (G : Table) (is : List PlainInst) → AllFit G is → IsLayout (classes is) → (b n : ℕ) → IsOfBlock is n b
    → IsIn is b n
block_of G is fits laid b n o =
    let u = o.begun.up_to in
    let e : b + (n - b) ≡ n = omega (arith, u) in
    subst (λ k. IsIn is b k) e (block_from G is fits laid b n (n - b) o (omega (arith, u)))

-- Results, labels and local ids.

pub defined_at : (is : List PlainInst) (n x : ℕ) → result_at is n ≡ Some x → IsDefinedAt is x n
defined_at is n x h = let i = some_result is n x h in record { inst = i.0; there = i.1; result = i.2 }

pub result_of : (is : List PlainInst) (n x : ℕ) → IsDefinedAt is x n → result_at is n ≡ Some x
result_of is n x d = result_here is n d.inst d.there ∙ d.result

pub label_opcode : (G : Table) (i : PlainInst) (a : Act) → View G i a → a ≡ Label → i.opcode ≡ opcode.LABEL
label_opcode G i _ (View.label b e os) h = e
label_opcode G i _ _ h = cc

pub op_label : (G : Table) (is : List PlainInst) → AllFit G is → (n : ℕ) → act_at is n ≡ Some Label
    → IsOp is n target.is_label
op_label G is fits n h =
    let i = act_back is n Label h in
    let e = label_opcode G i.0 (act_of i.0) (view G i.0 (fits n i.0 i.1)) i.2 in
    rw (i.1, e) refl

op_there : (is : List PlainInst) (n : ℕ) (test : ℕ → Bool) → IsOp is n test
    → (i : PlainInst) × (slice_get is n ≡ Some i) × (test i.opcode ≡ true)
op_there is n test h = by_inst (slice_get is n) refl where
  by_inst : (o : Option PlainInst) → slice_get is n ≡ o
      → (i : PlainInst) × (slice_get is n ≡ Some i) × (test i.opcode ≡ true)
  by_inst None e = absurd (rw e at h)
  by_inst (Some i) e = (i, e, rw e at h)

pub label_act : (i : PlainInst) → i.opcode ≡ opcode.LABEL → act_of i ≡ Label
unfolding act_of
label_act i e = rw e refl

pub label_op : (is : List PlainInst) (n : ℕ) → IsOp is n target.is_label → act_at is n ≡ Some Label
label_op is n h =
    let i = op_there is n target.is_label h in
    act_from is n i.0 Label i.1 (label_act i.0 (eqb-true i.0.opcode 248 i.2))

pub label_to : (G : Table) (is : List PlainInst) → AllFit G is → (m x : ℕ) → IsLabel is m x → IsLabelOf is x m
label_to G is fits m x l = record { defined = defined_at is m x l.result; label = op_label G is fits m l.act }

pub label_from : (is : List PlainInst) (m x : ℕ) → IsLabelOf is x m → IsLabel is m x
label_from is m x l = record { act = label_op is m l.label; result = result_of is m x l.defined }

end_no_result : (G : Table) (is : List PlainInst) → AllFit G is → IsLaidOut is → (n x : ℕ) → result_at is n ≡ Some x
    → act_at is n ≢ Some FunctionEnd
end_no_result G is fits laid n x h e = none-some x (sym (laid.ends n FunctionEnd e refl) ∙ h)

pub local_to : (G : Table) (is : List PlainInst) → AllFit G is → IsLaidOut is → (f x : ℕ) → IsLocalTo is f x
    → ids.IsLocalTo is x f
local_to G is fits laid f x l =
    let d = defined_at is l.place x l.result in
    record {
      place = l.place;
      defined = d;
      of = of_function G is fits laid f l.place l.inside (slice_get_within is l.place d.inst d.there);
      after = l.after;
      before = λ a. end_no_result G is fits laid l.place x l.result (end_at G is fits l.place a);
    }

pub local_from : (G : Table) (is : List PlainInst) → AllFit G is → (f x : ℕ) → ids.IsLocalTo is x f → IsLocalTo is f x
local_from G is fits f x l =
    record {
      place = l.place;
      after = l.after;
      inside = function_of G is fits f l.place l.of;
      result = result_of is l.place x l.defined;
    }

pub is_local : (G : Table) (is : List PlainInst) → AllFit G is → IsLaidOut is → (x : ℕ) → IsLocal is x
    → ids.IsLocal is x
is_local G is fits laid x l = (l.0, local_to G is fits laid l.0 x l.1)

pub local_is : (G : Table) (is : List PlainInst) → AllFit G is → (x : ℕ) → ids.IsLocal is x → IsLocal is x
local_is G is fits x l = (l.0, local_from G is fits l.0 x l.1)

-- A function of which an OpLabel's block has an instruction is a definition.

of_forward : (is : List PlainInst) (f b n : ℕ) → IsOf is f b → IsIn is b n
    → ((k : ℕ) → k < n → (a : Act) × (act_at is k ≡ Some a)) → IsOf is f n
of_forward is f b n o i there = record {
  function = o.function;
  from = (let w = o.from in let v = i.from in omega (arith, w, v));
  within = λ k l u. elim (cases_lt k b) [
    | inl less ↦ o.within k l less
    | inr more ↦ (let a = there k u in goes_no_end is k a.0 a.1 (i.within k more u a.0 a.1))
  ];
}

pub label_function : (is : List PlainInst) → IsLaidOut is → (f b n : ℕ) → IsOf is f n → IsIn is b n → n < length is
    → IsOf is f b
label_function is laid f b n o i w =
    let home = laid.labels b i.label in
    let there : (k : ℕ) → k < n → (a : Act) × (act_at is k ≡ Some a) = λ k l. act_there is k (omega (arith, l, w)) in
    let same : home.0 ≡ f = one_function is laid home.0 f n (of_forward is home.0 b n home.2 i there) o in
    subst (λ g. IsOf is g b) same home.2
  where
    act_there : (is : List PlainInst) (k : ℕ) → k < length is → (a : Act) × (act_at is k ≡ Some a)
    act_there is k h = let i = inst_there is k h in (act_of i.0, act_here is k i.0 i.1)

pub is_definition : (G : Table) (is : List PlainInst) → AllFit G is → IsLaidOut is → (f b n : ℕ) → IsOf is f n
    → IsIn is b n → n < length is → IsDefinition is f
is_definition G is fits laid f b n o i w = record {
  label = b;
  there = at_label G is fits b i.label;
  of = of_function G is fits laid f b (label_function is laid f b n o i w) (here_within is b Label i.label);
}
