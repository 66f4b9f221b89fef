-- What is of a block is of a function, and which instructions are OpLabels.
use Rattle.std.proofs.Common.{◌≡◌, ◌∙◌, ◌<◌, ◌≤◌, ◌+◌, ◌&&◌, ◌||◌, ℕ, zero, suc, List, [], ◌∷◌, Bool, true, false, not}
use Rattle.std.proofs.Common.{Option, Some, None, refl, sym, ap, subst, inl, inr, length, nat_eq, arith}
use Rattle.std.specs.Prelude.{slice_get}
use Rattle.std.proofs.lemmas.Bool.{cases_lt, eqb-true}
use Rattle.std.proofs.lemmas.List.{length-map}
use Rattle.std.proofs.lemmas.Option.{slice_get_within}
use Rattle.spv_module.specs.declared.opcode.TheConstants as opcode
use Rattle.spv_module.specs.Operand.{PlainInst}
use Rattle.spv_layout.specs.declared.class.Class.{Class}
use Rattle.spv_layout.specs.declared.class.Class.TheVariants.{Capability, Function, FunctionEnd, Label}
use Rattle.spv_layout.specs.declared.state.State.{State}
use Rattle.spv_layout.specs.declared.state.State.TheVariants as at
use Rattle.spv_layout.specs.Class.{is_among}
use Rattle.spv_layout.specs.Row.{PlainRow, row_in}
use Rattle.spv_layout.specs.Rows.{rows, row_of, class_of, class_in}
use Rattle.spv_layout.specs.Layout.{IsLayout, classes}
use Rattle.spv_layout.specs.Place.{IsAt, IsOfFunction, IsOfBlock, terminators}
use Rattle.spv_layout.specs.inner.Span.{In, Before, UpTo}
use Rattle.spv_layout.specs.inner.State.{next_of}
use Rattle.spv_layout.proofs.Following.{implies}
use Rattle.spv_layout.proofs.Layouts.{layout_remains}
use Rattle.spv_layout.proofs.Seen.{ends_well}
use Rattle.spv_layout.proofs.Spans.{is_at, enter_true, enters, leaves, within}
use Rattle.spv_layout.proofs.Worked.{run, run_none}
use Rattle.spv_flow.proofs.lemmas.walks.Ended.{all_rows, HasRow, row_tells, and_first, and_second, end_by, class_at}

-- The opcode of an OpLabel.

alone : PlainRow → Bool
alone r = not (is_among r.class (Label ∷ [])) || (nat_eq r.from opcode.LABEL && nat_eq r.to opcode.LABEL)

label_alone : all_rows alone rows ≡ true
unfolding rows all_rows alone
label_alone = refl

by_row : (n : ℕ) (r : PlainRow) → HasRow alone n r → is_among r.class (Label ∷ []) ≡ true → n ≡ opcode.LABEL
unfolding alone
by_row n r h a =
    let two = end_by (is_among r.class (Label ∷ [])) (nat_eq r.from opcode.LABEL && nat_eq r.to opcode.LABEL)
    h.passes a in
    let f : r.from ≡ opcode.LABEL = eqb-true r.from opcode.LABEL
    (and_first (nat_eq r.from opcode.LABEL) (nat_eq r.to opcode.LABEL) two) in
    let t : r.to ≡ opcode.LABEL = eqb-true r.to opcode.LABEL
    (and_second (nat_eq r.from opcode.LABEL) (nat_eq r.to opcode.LABEL) two) in
    let l = h.from in
    let m = h.to in
    omega (arith, f, t, l, m)

one_opcode : (n : ℕ) (o : Option PlainRow) → row_in rows n ≡ o → is_among (class_in o) (Label ∷ []) ≡ true
    → n ≡ opcode.LABEL
one_opcode n None e a = cc
one_opcode n (Some r) e a = by_row n r (row_tells alone rows n r label_alone e) a

pub label_opcode : (is : List PlainInst) (n : ℕ) (i : PlainInst) → slice_get is n ≡ Some i → IsAt is n (Label ∷ [])
    → i.opcode ≡ opcode.LABEL
label_opcode is n i h a = let c = rw (class_at is n i h) at a in one_opcode i.opcode (row_of i.opcode) refl c

-- The states of the layout in which a function, or a block, is open.

abbrev is_open : State → Bool
is_open at.Function = true
is_open at.Definition = true
is_open at.Variables = true
is_open at.Phis = true
is_open at.Body = true
is_open at.LoopMerge = true
is_open at.SelectionMerge = true
is_open at.Block = true
is_open _ = false

abbrev is_blocked : State → Bool
is_blocked at.Variables = true
is_blocked at.Phis = true
is_blocked at.Body = true
is_blocked at.LoopMerge = true
is_blocked at.SelectionMerge = true
is_blocked _ = false

abbrev is_function : Class → Bool
is_function c = is_among c (Function ∷ [])

abbrev is_end : Class → Bool
is_end c = is_among c (FunctionEnd ∷ [])

abbrev is_label : Class → Bool
is_label c = is_among c (Label ∷ [])

abbrev ends_block : Class → Bool
ends_block c = is_among c terminators

abbrev opens : State → Class → State → Bool
opens s c t = implies (is_open t) ((is_function c || is_open s) && not (is_end c))

abbrev stays : State → Class → Bool
stays s c = implies (is_label c || is_blocked s) (is_open s && not (is_function c))

abbrev blocks : State → Class → State → Bool
blocks s c t = implies ((is_label c || is_blocked s) && not (ends_block c)) (is_blocked t)

abbrev is_kept : State → Class → Option State → Bool
is_kept s c None = true
is_kept s c (Some t) = opens s c t && (stays s c && blocks s c t)

kept : (s : State) (c : Class) → is_kept s c (next_of s c) ≡ true
kept at.Capabilities Capability = refl
kept at.Capabilities _ = refl
kept at.Extensions Capability = refl
kept at.Extensions _ = refl
kept at.Imports Capability = refl
kept at.Imports _ = refl
kept at.EntryPoints Capability = refl
kept at.EntryPoints _ = refl
kept at.ExecutionModes Capability = refl
kept at.ExecutionModes _ = refl
kept at.Sources Capability = refl
kept at.Sources _ = refl
kept at.Names Capability = refl
kept at.Names _ = refl
kept at.Processed Capability = refl
kept at.Processed _ = refl
kept at.Decorations Capability = refl
kept at.Decorations _ = refl
kept at.Declarations Capability = refl
kept at.Declarations _ = refl
kept at.Function Capability = refl
kept at.Function _ = refl
kept at.Declared Capability = refl
kept at.Declared _ = refl
kept at.Definition Capability = refl
kept at.Definition _ = refl
kept at.Defined Capability = refl
kept at.Defined _ = refl
kept at.Variables Capability = refl
kept at.Variables _ = refl
kept at.Phis Capability = refl
kept at.Phis _ = refl
kept at.Body Capability = refl
kept at.Body _ = refl
kept at.LoopMerge Capability = refl
kept at.LoopMerge _ = refl
kept at.SelectionMerge Capability = refl
kept at.SelectionMerge _ = refl
kept at.Block Capability = refl
kept at.Block _ = refl

-- the same of a transition, one by one
record Keeps (s : State) (c : Class) (t : State) : Type 0 where
  pub opened : is_open t ≡ true → (is_function c || is_open s) ≡ true
  pub unended : is_open t ≡ true → is_end c ≡ false
  pub within : (is_label c || is_blocked s) ≡ true → is_open s ≡ true
  pub other : (is_label c || is_blocked s) ≡ true → is_function c ≡ false
  pub goes_on : (is_label c || is_blocked s) ≡ true → ends_block c ≡ false → is_blocked t ≡ true

given : (a b : Bool) → implies a b ≡ true → a ≡ true → b ≡ true
given true b h e = h
given false b h e = cc

first_of : (a b : Bool) → a && not b ≡ true → a ≡ true
first_of true b h = refl
first_of false b h = cc

not_second : (a b : Bool) → a && not b ≡ true → b ≡ false
not_second true true h = cc
not_second true false h = refl
not_second false b h = cc

and_not : (a b : Bool) → a ≡ true → b ≡ false → a && not b ≡ true
and_not true true e f = cc
and_not true false e f = refl
and_not false b e f = cc

keeps : (s : State) (c : Class) (t : State) → next_of s c ≡ Some t → Keeps s c t
keeps s c t e =
    let all = rw e at (kept s c) in
    let p = and_first (opens s c t) (stays s c && blocks s c t) all in
    let more = and_second (opens s c t) (stays s c && blocks s c t) all in
    let q = and_first (stays s c) (blocks s c t) more in
    let r = and_second (stays s c) (blocks s c t) more in
    record {
      opened = λ h. first_of (is_function c || is_open s) (is_end c)
          (given (is_open t) ((is_function c || is_open s) && not (is_end c)) p h);
      unended = λ h. not_second (is_function c || is_open s) (is_end c)
          (given (is_open t) ((is_function c || is_open s) && not (is_end c)) p h);
      within = λ h. first_of (is_open s) (is_function c)
          (given (is_label c || is_blocked s) (is_open s && not (is_function c)) q h);
      other = λ h. not_second (is_open s) (is_function c)
          (given (is_label c || is_blocked s) (is_open s && not (is_function c)) q h);
      goes_on = λ h k. given ((is_label c || is_blocked s) && not (ends_block c)) (is_blocked t) r
          (and_not (is_label c || is_blocked s) (ends_block c) h k);
    }

-- What is known before instruction n, at a state: where a function is open, which; and a block that is open is told.
record Known (is : List PlainInst) (n : ℕ) (s : State) : Type 0 where
  pub function : is_open s ≡ true → (f : ℕ) × Before is Function (FunctionEnd ∷ []) n (In f)
  pub block : (b : ℕ) → b < n → IsAt is b (Label ∷ []) → ((k : ℕ) → b ≤ k → k < n → ¬ (IsAt is k terminators))
      → is_blocked s ≡ true

up_to : (b : Bool) (is : List PlainInst) (n : ℕ) (s : State) (c : Class) → is_function c ≡ b → (b || is_open s) ≡ true
    → n < length is → slice_get (classes is) n ≡ Some c → Known is n s
    → (f : ℕ) × UpTo is Function (FunctionEnd ∷ []) n (In f)
up_to true is n s c e o h g k =
    (n, enter_true is Function (FunctionEnd ∷ []) n h (is_at is n c (Function ∷ []) g e))
up_to false is n s c e o h g k = let b = k.function o in
    (b.0, rw e at (enters is Function (FunctionEnd ∷ []) n c (In b.0) h g b.1))

true_left : (a b : Bool) → a ≡ true → (a || b) ≡ true
true_left true b e = refl
true_left false b e = cc

true_right : (a b : Bool) → b ≡ true → (a || b) ≡ true
true_right true b e = refl
true_right false b e = e

told : (is : List PlainInst) (n : ℕ) (c : Class) (cs : List Class) → slice_get (classes is) n ≡ Some c → IsAt is n cs
    → is_among c cs ≡ true
told is n c cs g a = rw g at a

untold : (b : Bool) (is : List PlainInst) (n : ℕ) (c : Class) (cs : List Class) → is_among c cs ≡ b
    → slice_get (classes is) n ≡ Some c → ¬ (IsAt is n cs) → b ≡ false
untold true is n c cs e g a = absurd (a (is_at is n c cs g e))
untold false is n c cs e g a = refl

known_more : (is : List PlainInst) (n : ℕ) (s t : State) (c : Class) → next_of s c ≡ Some t → n < length is
    → slice_get (classes is) n ≡ Some c → Known is n s → Known is (n + 1) t
known_more is n s t c e h g k =
    let keep = keeps s c t e in
    record {
      function = λ o. (
          let u = up_to (is_function c) is n s c refl (keep.opened o) h g k in
          (u.0, rw (keep.unended o) at (leaves is Function (FunctionEnd ∷ []) n c (In u.0) g u.1)));
      block = λ b lt l none.
          let some : (is_label c || is_blocked s) ≡ true = elim (cases_lt b n) [
            | inl less ↦ true_right (is_label c) (is_blocked s)
                (k.block b less l (λ j from to. none j from (omega (arith, to))))
            | inr more ↦ (let same : b ≡ n = omega (arith, lt, more) in
                true_left (is_label c) (is_blocked s)
                (told is n c (Label ∷ []) g (subst (λ (j : ℕ). IsAt is j (Label ∷ [])) same l)))
          ] in
          keep.goes_on some
          (untold (ends_block c) is n c terminators refl g (none n (omega (arith, lt)) (omega arith)));
    }

-- an instruction of a block
of_open : (is : List PlainInst) (n b : ℕ) (s t : State) (c : Class) → next_of s c ≡ Some t → n < length is
    → slice_get (classes is) n ≡ Some c → Known is n s → IsOfBlock is n b → (f : ℕ) × IsOfFunction is n f
of_open is n b s t c e h g k of =
    let keep = keeps s c t e in
    let up = of.begun.up_to in
    let some : (is_label c || is_blocked s) ≡ true = elim (cases_lt b n) [
      | inl less ↦ true_right (is_label c) (is_blocked s) (k.block b less of.begun.there of.not_ended)
      | inr more ↦ (let same : b ≡ n = omega (arith, up, more) in
          true_left (is_label c) (is_blocked s)
          (told is n c (Label ∷ []) g (subst (λ (j : ℕ). IsAt is j (Label ∷ [])) same of.begun.there)))
    ] in
    let f = k.function (keep.within some) in
    let u = rw (keep.other some) at (enters is Function (FunctionEnd ∷ []) n c (In f.0) h g f.1) in
    (f.0, within is Function (FunctionEnd ∷ []) n (In f.0) u)

-- the classes are those from number n on
abbrev AreFrom : List PlainInst → ℕ → List Class → Type 0
AreFrom is n cs = (k : ℕ) → slice_get cs k ≡ slice_get (classes is) (n + k)

here : (is : List PlainInst) (n : ℕ) (c : Class) (cs : List Class) → AreFrom is n (c ∷ cs)
    → slice_get (classes is) n ≡ Some c
here is n c cs a = let z : n ≡ n + 0 = omega arith in ap (slice_get (classes is)) z ∙ sym (a 0)

rest : (is : List PlainInst) (n : ℕ) (c : Class) (cs : List Class) → AreFrom is n (c ∷ cs) → AreFrom is (n + 1) cs
rest is n c cs a k = let z : n + suc k ≡ (n + 1) + k = omega arith in a (suc k) ∙ ap (slice_get (classes is)) z

class_within : (is : List PlainInst) (n : ℕ) (c : Class) → slice_get (classes is) n ≡ Some c → n < length is
class_within is n c g =
    let l = slice_get_within (classes is) n c g in
    let m = length-map is (λ (i : PlainInst). class_of i.opcode) in
    omega (arith, l, m)

found_moved : (is : List PlainInst) (m n : ℕ) → m ≡ n → (f : ℕ) × IsOfFunction is m f → (f : ℕ) × IsOfFunction is n f
found_moved is m n e w = rw (← e) w

abbrev AreFound : List PlainInst → List Class → Type 0
AreFound is cs = (n : ℕ) (s t : State) → AreFrom is n cs → run (Some s) cs ≡ Some t → Known is n s → (k b : ℕ)
    → IsOfBlock is (n + k) b → (f : ℕ) × IsOfFunction is (n + k) f

found_by : (o : Option State) (c : Class) (cs : List Class) (is : List PlainInst) (n : ℕ) (s t : State)
    → AreFrom is n (c ∷ cs) → next_of s c ≡ o → run o cs ≡ Some t → Known is n s → AreFound is cs → (k b : ℕ)
    → IsOfBlock is (n + k) b → (f : ℕ) × IsOfFunction is (n + k) f
found_by None c cs is n s t a e r known more k b of = absurd (run_none cs t r)
found_by (Some u) c cs is n s t a e r known more zero b of =
    let g = here is n c cs a in
    let z : n + 0 ≡ n = omega arith in
    found_moved is n (n + 0) (sym z)
    (of_open is n b s u c e (class_within is n c g) g known (subst (λ (j : ℕ). IsOfBlock is j b) z of))
found_by (Some u) c cs is n s t a e r known more (suc k) b of =
    let g = here is n c cs a in
    let z : n + suc k ≡ (n + 1) + k = omega arith in
    found_moved is ((n + 1) + k) (n + suc k) (sym z)
    (more (n + 1) u t (rest is n c cs a) r (known_more is n s u c e (class_within is n c g) g known) k b
    (subst (λ (j : ℕ). IsOfBlock is j b) z of))

found_from : (cs : List Class) (is : List PlainInst) → AreFound is cs
found_from [] is n s t a r known k b of =
    let w = of.begun.within in
    let m = length-map is (λ (i : PlainInst). class_of i.opcode) in
    absurd (none_there (classes is) (n + k) (omega (arith, w, m)) (a k)) where
      none_there : (cs : List Class) (j : ℕ) → j < length cs → None ≡ slice_get cs j → ⊥
      none_there [] j lt e = omega (arith, lt)
      none_there (c ∷ cs) zero lt e = cc
      none_there (c ∷ cs) (suc j) lt e = none_there cs j (omega (arith, lt)) e
found_from (c ∷ cs) is n s t a r known k b of =
    found_by (next_of s c) c cs is n s t a refl r known (found_from cs is) k b of

none_known : (is : List PlainInst) → Known is 0 at.Capabilities
none_known is = record { function = λ o. cc; block = λ b lt l none. absurd (omega (arith, lt)) }

all_there : (is : List PlainInst) → AreFrom is 0 (classes is)
all_there is k = let z : k ≡ 0 + k = omega arith in ap (slice_get (classes is)) z

-- of instructions that are laid out
pub block_function : (is : List PlainInst) (n b : ℕ) → IsLayout (classes is) → IsOfBlock is n b
    → (f : ℕ) × IsOfFunction is n f
block_function is n b l of =
    let w = ends_well (classes is) at.Capabilities (layout_remains (classes is) l) in
    let z : n ≡ 0 + n = omega arith in
    found_moved is (0 + n) n (sym z)
    (found_from (classes is) is 0 at.Capabilities w.state (all_there is) w.run (none_known is) n b
    (subst (λ (j : ℕ). IsOfBlock is j b) z of))
