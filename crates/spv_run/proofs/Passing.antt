-- The automaton of the layout goes over a list that is laid out: what each state and class say of functions and blocks.
use Rattle.std.proofs.Common.{◌≡◌, ◌∙◌, ◌≤◌, ◌<◌, inl, inr, ℕ, zero, suc, List, [], ◌∷◌, Bool, true, false, not, ◌&&◌}
use Rattle.std.proofs.Common.{◌||◌, Option, Some, None, refl, ap, subst, arith, length, drop}
use Rattle.std.specs.Prelude.{slice_get}
use Rattle.std.proofs.lemmas.Bool.{cases_lt}
use Rattle.std.proofs.lemmas.Option.{slice_get_within, none-some}
use Rattle.spv_module.specs.Operand.{PlainInst}
use Rattle.spv_layout.specs.declared.class.Class.{Class}
use Rattle.spv_layout.specs.declared.class.Class.TheVariants.{Capability, Variable, Undef, Function, Parameter}
use Rattle.spv_layout.specs.declared.class.Class.TheVariants.{FunctionEnd, Label, Phi, Body, Branch, BranchConditional}
use Rattle.spv_layout.specs.declared.class.Class.TheVariants.{Switch, Return, LoopMerge, SelectionMerge, Line, Extended}
use Rattle.spv_layout.specs.declared.state.State.{State}
use Rattle.spv_layout.specs.declared.state.State.TheVariants as at
use Rattle.spv_layout.specs.Class.{is_among}
use Rattle.spv_layout.specs.Rows.{class_of}
use Rattle.spv_layout.specs.Layout.{IsLayout, classes}
use Rattle.spv_layout.specs.inner.State.{next_of, may_stop, Remains}
use Rattle.spv_layout.proofs.Derivatives.{both_hold}
use Rattle.spv_layout.proofs.Remains.{goes_on, goes_no_further}
use Rattle.spv_layout.proofs.Layouts.{layout_remains, stops_not_there}

-- the state is in the head of a function, in a function, in a block, or in an entry block
abbrev pub in_head : State → Bool
in_head at.Function = true
in_head at.Definition = true
in_head _ = false

abbrev pub in_function : State → Bool
in_function at.Function = true
in_function at.Definition = true
in_function at.Variables = true
in_function at.Phis = true
in_function at.Body = true
in_function at.LoopMerge = true
in_function at.SelectionMerge = true
in_function at.Block = true
in_function _ = false

abbrev pub in_a_block : State → Bool
in_a_block at.Variables = true
in_a_block at.Phis = true
in_a_block at.Body = true
in_a_block at.LoopMerge = true
in_a_block at.SelectionMerge = true
in_a_block _ = false

abbrev pub in_entry : State → Bool
in_entry at.Variables = true
in_entry at.Body = true
in_entry at.LoopMerge = true
in_entry at.SelectionMerge = true
in_entry _ = false

abbrev pub a_function : Class → Bool
a_function c = is_among c (Function ∷ [])

abbrev pub an_end : Class → Bool
an_end c = is_among c (FunctionEnd ∷ [])

abbrev pub a_label : Class → Bool
a_label c = is_among c (Label ∷ [])

abbrev pub a_phi : Class → Bool
a_phi c = is_among c (Phi ∷ [])

-- a parameter or a line
abbrev pub of_head : Class → Bool
of_head c = is_among c (Parameter ∷ Line ∷ [])

abbrev pub a_terminator : Class → Bool
a_terminator c = is_among c (Branch ∷ BranchConditional ∷ Switch ∷ Return ∷ [])

-- what may stand in a block after its label
abbrev pub of_block : Class → Bool
of_block c = is_among c (Variable ∷ Undef ∷ Phi ∷ Body ∷ Branch ∷ BranchConditional ∷ Switch ∷ Return ∷ LoopMerge
    ∷ SelectionMerge ∷ Line ∷ Extended ∷ [])

abbrev pub implies : Bool → Bool → Bool
implies true b = b
implies false b = true

-- what a transition keeps
abbrev is_fine : State → Class → Option State → Bool
is_fine s c None = true
is_fine s c (Some t) =
    implies (in_function s && not (an_end c)) (in_function t)
    && implies (in_function s) (not (a_function c))
    && implies (in_head s) (of_head c || a_label c || an_end c)
    && implies (in_head s && of_head c) (in_head t)
    && implies (a_function c) (in_head t)
    && implies (a_label c) (in_function s && in_a_block t)
    && implies (a_label c && in_head s) (in_entry t)
    && implies (in_a_block s) (of_block c)
    && implies (in_a_block s && not (a_terminator c)) (in_a_block t)
    && implies (in_entry s) (not (a_phi c))
    && implies (in_entry s && not (a_terminator c)) (in_entry t)
    && implies (in_function t && not (a_function c)) (in_function s && not (an_end c))

fine : (s : State) (c : Class) → is_fine s c (next_of s c) ≡ true
fine at.Capabilities Capability = refl
fine at.Extensions Capability = refl
fine at.Imports Capability = refl
fine at.EntryPoints Capability = refl
fine at.ExecutionModes Capability = refl
fine at.Sources Capability = refl
fine at.Names Capability = refl
fine at.Processed Capability = refl
fine at.Decorations Capability = refl
fine at.Declarations Capability = refl
fine at.Function Capability = refl
fine at.Declared Capability = refl
fine at.Definition Capability = refl
fine at.Defined Capability = refl
fine at.Variables Capability = refl
fine at.Phis Capability = refl
fine at.Body Capability = refl
fine at.LoopMerge Capability = refl
fine at.SelectionMerge Capability = refl
fine at.Block Capability = refl
fine _ _ = refl

-- the same, one by one
pub record Fine (s : State) (c : Class) (t : State) : Type 0 where
  pub function_goes : implies (in_function s && not (an_end c)) (in_function t) ≡ true
  pub no_function : implies (in_function s) (not (a_function c)) ≡ true
  pub head : implies (in_head s) (of_head c || a_label c || an_end c) ≡ true
  pub head_goes : implies (in_head s && of_head c) (in_head t) ≡ true
  pub begins : implies (a_function c) (in_head t) ≡ true
  pub label : implies (a_label c) (in_function s && in_a_block t) ≡ true
  pub entry : implies (a_label c && in_head s) (in_entry t) ≡ true
  pub block : implies (in_a_block s) (of_block c) ≡ true
  pub block_goes : implies (in_a_block s && not (a_terminator c)) (in_a_block t) ≡ true
  pub no_phi : implies (in_entry s) (not (a_phi c)) ≡ true
  pub entry_goes : implies (in_entry s && not (a_terminator c)) (in_entry t) ≡ true
  pub back : implies (in_function t && not (a_function c)) (in_function s && not (an_end c)) ≡ true

pub fine_move : (s : State) (c : Class) (t : State) → next_of s c ≡ Some t → Fine s c t
fine_move s c t e = parts (rw e at (fine s c)) where
  parts : is_fine s c (Some t) ≡ true → Fine s c t
  parts h =
      let p = both_hold _ _ h in
      let q = both_hold _ _ p.0 in
      let r = both_hold _ _ q.0 in
      let u = both_hold _ _ r.0 in
      let v = both_hold _ _ u.0 in
      let w = both_hold _ _ v.0 in
      let x = both_hold _ _ w.0 in
      let y = both_hold _ _ x.0 in
      let z = both_hold _ _ y.0 in
      let a = both_hold _ _ z.0 in
      let b = both_hold _ _ a.0 in
      record {
        function_goes = b.0;
        no_function = b.1;
        head = a.1;
        head_goes = z.1;
        begins = y.1;
        label = x.1;
        entry = w.1;
        block = v.1;
        block_goes = u.1;
        no_phi = r.1;
        entry_goes = q.1;
        back = p.1;
      }

-- where a module may stop, no function is opened
stop_outside : (s : State) → may_stop s ≡ true → in_function s ≡ false
stop_outside at.EntryPoints h = refl
stop_outside at.ExecutionModes h = refl
stop_outside at.Sources h = refl
stop_outside at.Names h = refl
stop_outside at.Processed h = refl
stop_outside at.Decorations h = refl
stop_outside at.Declarations h = refl
stop_outside at.Declared h = refl
stop_outside at.Defined h = refl
stop_outside _ h = cc

-- The automaton is at the state before instruction n, and the state leaves the rest.
pub data Passes (is : List PlainInst) : ℕ → State → Type 0 where
  start : Passes is 0 at.Capabilities
  step : (n : ℕ) (s t : State) (i : PlainInst) → Passes is n s → slice_get is n ≡ Some i
      → next_of s (class_of i.opcode) ≡ Some t → Passes is (suc n) t

-- the state before an instruction, and what it leaves
pub record Passed (is : List PlainInst) (n : ℕ) : Type 0 where
  pub state : State
  pub passes : Passes is n state
  pub remains : Remains state (classes (drop n is))

pub from_here : (is : List PlainInst) (n : ℕ) (i : PlainInst) → slice_get is n ≡ Some i
    → drop n is ≡ i ∷ drop (suc n) is
from_here [] n i h = absurd (none-some i h)
from_here (j ∷ is) zero i h = ap (λ k. k ∷ is) (let e : j ≡ i = cc in e)
from_here (j ∷ is) (suc n) i h = from_here is n i h

step_on : (is : List PlainInst) (n : ℕ) (i : PlainInst) → slice_get is n ≡ Some i → (p : Passed is n)
    → (o : Option State) → next_of p.state (class_of i.opcode) ≡ o → Passed is (suc n)
step_on is n i h p None e =
    let r : Remains p.state (class_of i.opcode ∷ classes (drop (suc n) is)) = subst (λ js. Remains p.state (classes js))
    (from_here is n i h) p.remains in
    absurd (goes_no_further p.state (class_of i.opcode) e (classes (drop (suc n) is)) r)
step_on is n i h p (Some t) e =
    let r : Remains p.state (class_of i.opcode ∷ classes (drop (suc n) is)) = subst (λ js. Remains p.state (classes js))
    (from_here is n i h) p.remains in
    record {
      state = t;
      passes = Passes.step n p.state t i p.passes h e;
      remains = (goes_on p.state t (class_of i.opcode) e (classes (drop (suc n) is))).forth r;
    }

some_inst : (is : List PlainInst) (n : ℕ) → n < length is → (i : PlainInst) × (slice_get is n ≡ Some i)
some_inst [] n h = absurd (omega (arith, h))
some_inst (j ∷ is) zero h = (j, refl)
some_inst (j ∷ is) (suc n) h = some_inst is n (omega (arith, h))

pub passed : (is : List PlainInst) → IsLayout (classes is) → (n : ℕ) → n ≤ length is → Passed is n
passed is laid zero h =
    record { state = at.Capabilities; passes = Passes.start; remains = layout_remains (classes is) laid }
passed is laid (suc n) h =
    let i = some_inst is n (omega (arith, h)) in
    let p = passed is laid n (omega (arith, h)) in
    step_on is n i.0 i.1 p (next_of p.state (class_of i.0.opcode)) refl

-- the state before an instruction, and the one after it
pub record Moved (is : List PlainInst) (n : ℕ) (i : PlainInst) : Type 0 where
  pub state : State
  pub after : State
  pub before : Passes is n state
  pub passes : Passes is (suc n) after
  pub fine : Fine state (class_of i.opcode) after

-- one state before each instruction
pub one_state : (is : List PlainInst) (m n : ℕ) (s t : State) → Passes is m s → Passes is n t → m ≡ n → s ≡ t
one_state is _ _ _ _ Passes.start Passes.start e = refl
one_state is _ _ _ _ Passes.start (Passes.step n s t i p h g) e = absurd (omega (arith, e))
one_state is _ _ _ _ (Passes.step n s t i p h g) Passes.start e = absurd (omega (arith, e))
one_state is _ _ _ _ (Passes.step n s t i p h g) (Passes.step m u v j q k f) e =
    let same : n ≡ m = omega (arith, e) in
    let states : s ≡ u = one_state is n m s u p q same in
    let there : slice_get is n ≡ Some j = ap (slice_get is) same ∙ k in
    let insts : i ≡ j = cc in
    let to : next_of s (class_of i.opcode) ≡ Some v = ap (λ x. next_of x (class_of i.opcode)) states
    ∙ (ap (λ x. next_of u (class_of x.opcode)) insts ∙ f) in
    cc

pub moved : (is : List PlainInst) → IsLayout (classes is) → (n : ℕ) (i : PlainInst) → slice_get is n ≡ Some i
    → Moved is n i
moved is laid n i h =
    let l = slice_get_within is n i h in
    let p = passed is laid n (omega (arith, l)) in
    by_next p (next_of p.state (class_of i.opcode)) refl where
      by_next : (p : Passed is n) → (o : Option State) → next_of p.state (class_of i.opcode) ≡ o → Moved is n i
      by_next p None e =
          let r : Remains p.state (class_of i.opcode ∷ classes (drop (suc n) is)) = subst
          (λ js. Remains p.state (classes js)) (from_here is n i h) p.remains in
          absurd (goes_no_further p.state (class_of i.opcode) e (classes (drop (suc n) is)) r)
      by_next p (Some t) e = record {
        state = p.state;
        after = t;
        before = p.passes;
        passes = Passes.step n p.state t i p.passes h e;
        fine = fine_move p.state (class_of i.opcode) t e;
      }

drop_all : (is : List PlainInst) → drop (length is) is ≡ []
drop_all [] = refl
drop_all (i ∷ is) = drop_all is

-- in a function an instruction follows
pub goes_further : (is : List PlainInst) → IsLayout (classes is) → (n : ℕ) (s : State) → n ≤ length is → Passes is n s
    → in_function s ≡ true → (i : PlainInst) × (slice_get is n ≡ Some i)
goes_further is laid n s h p f = elim (cases_lt n (length is)) [
  | inl l ↦ some_inst is n l
  | inr g ↦ (
      let e : n ≡ length is = omega (arith, h, g) in
      let q = passed is laid n h in
      let same : q.state ≡ s = one_state is n n q.state s q.passes p refl in
      let rest : drop n is ≡ [] = ap (λ k. drop k is) e ∙ drop_all is in
      let r : Remains q.state [] = subst (λ js. Remains q.state (classes js)) rest q.remains in
      let opened : in_function q.state ≡ true = ap in_function same ∙ f in
      absurd (by_stop q.state (may_stop q.state) refl r opened))
] where
  by_stop : (s : State) (b : Bool) → may_stop s ≡ b → Remains s [] → in_function s ≡ true → ⊥
  by_stop s false e r f = stops_not_there s e r
  by_stop s true e r f = let w = stop_outside s e in cc

pub within : (is : List PlainInst) (n : ℕ) (s : State) → Passes is n s → n ≤ length is
within is _ _ Passes.start = omega arith
within is _ _ (Passes.step n s t i p h e) = let l = slice_get_within is n i h in omega (arith, l)
