-- A parameter and a return are of a function.
use Rattle.std.proofs.Common.{◌≡◌, ◌∙◌, ◌<◌, ◌≤◌, ◌||◌, ◌&&◌, not, ℕ, zero, suc, List, [], ◌∷◌, inl, inr, Bool, true}
use Rattle.std.proofs.Common.{false, Option, Some, None, refl, sym, ap, subst, length, drop, arith}
use Rattle.std.specs.Prelude.{slice_get}
use Rattle.std.proofs.lemmas.Option.{slice_get_within, none-some}
use Rattle.spv_module.specs.Operand.{PlainInst}
use Rattle.spv_module.specs.declared.opcode.TheConstants as opcode
use Rattle.spv_layout.specs.declared.class.Class.{Class}
use Rattle.spv_layout.specs.declared.class.Class.TheVariants.{Function, FunctionEnd, Parameter, Return}
use Rattle.spv_layout.specs.declared.state.State.{State}
use Rattle.spv_layout.specs.declared.state.State.TheVariants as at
use Rattle.spv_layout.specs.Class.{is_among}
use Rattle.spv_layout.specs.Rows.{rows, class_of}
use Rattle.spv_layout.specs.Layout.{IsLayout, classes}
use Rattle.spv_layout.specs.Place.{IsAt, IsOfFunction}
use Rattle.spv_layout.specs.inner.State.{next_of, Remains}
use Rattle.spv_layout.proofs.Derivatives.{both_hold}
use Rattle.spv_layout.specs.inner.Pass.{is_open}
use Rattle.spv_layout.proofs.Following.{implies, fine_move}
use Rattle.spv_layout.proofs.Layouts.{layout_remains}
use Rattle.spv_layout.proofs.Remains.{goes_on, goes_no_further}
use Rattle.spv_layout.proofs.Spans.{is_at, is_not_at, at_moved, below_or}
use Rattle.spv_type_rules.proofs.Counting.{class_at}

-- f is the last OpFunction before instruction n, and no OpFunctionEnd stands from it to before n
record Opened (is : List PlainInst) (n f : ℕ) : Type 0 where
  below : f < n
  there : IsAt is f (Function ∷ [])
  last : (k : ℕ) → f < k → k < n → ¬ (IsAt is k (Function ∷ []))
  not_ended : (k : ℕ) → f ≤ k → k < n → ¬ (IsAt is k (FunctionEnd ∷ []))

-- the state before an instruction, what it leaves, and the function that is open where it says that one is
record Reached (is : List PlainInst) (n : ℕ) : Type 0 where
  state : State
  remains : Remains state (classes (drop n is))
  opened : is_open state ≡ true → (f : ℕ) × Opened is n f

from_here : (is : List PlainInst) (n : ℕ) (i : PlainInst) → slice_get is n ≡ Some i → drop n is ≡ i ∷ drop (suc n) is
from_here [] n i h = absurd (none-some i h)
from_here (j ∷ is) zero i h = ap (λ k. k ∷ is) (let e : j ≡ i = cc in e)
from_here (j ∷ is) (suc n) i h = from_here is n i h

some_inst : (is : List PlainInst) (n : ℕ) → n < length is → (i : PlainInst) × (slice_get is n ≡ Some i)
some_inst [] n h = absurd (omega (arith, h))
some_inst (j ∷ is) zero h = (j, refl)
some_inst (j ∷ is) (suc n) h = some_inst is n (omega (arith, h))

-- what a span of a function says after an instruction of a class
goes : (is : List PlainInst) (n : ℕ) (i : PlainInst) (s t : State) (a b : Bool) → slice_get is n ≡ Some i
    → is_among (class_of i.opcode) (Function ∷ []) ≡ a
    → is_among (class_of i.opcode) (FunctionEnd ∷ []) ≡ b → implies (is_open t) (a || is_open s && not b) ≡ true
    → (is_open s ≡ true → (f : ℕ) × Opened is n f) → is_open t ≡ true → (f : ℕ) × Opened is (suc n) f
goes is n i s t true b h e g imp o k = (
  n,
  record {
    below = omega arith;
    there = is_at is n (class_of i.opcode) (Function ∷ []) (class_at is n i h) e;
    last = λ m l u. absurd (omega arith);
    not_ended = λ m l u.
        let same : m ≡ n = omega arith in
        λ z. let w : is_among (class_of i.opcode) (FunctionEnd ∷ []) ≡ true = rw (class_at is n i h) at
        (at_moved is m n (FunctionEnd ∷ []) same z) in
        absurd (never (class_of i.opcode) e w);
  },
) where
  never : (c : Class) → is_among c (Function ∷ []) ≡ true → is_among c (FunctionEnd ∷ []) ≡ true → ⊥
  never Function x y = cc
  never _ x y = cc
goes is n i s t false b h e g imp o k =
    let two : is_open s && not b ≡ true = rw k at imp in
    let pair = both_hold (is_open s) (not b) two in
    let f = o pair.0 in
    let below = f.1.below in
    let ended : b ≡ false = ends b pair.1 in (
      f.0,
      record {
        below = omega arith;
        there = f.1.there;
        last = λ m l u z. elim (below_or m n (omega arith)) [
          | inl v ↦ f.1.last m l v z
          | inr q ↦ is_not_at is n (class_of i.opcode) (Function ∷ []) (class_at is n i h) e
              (at_moved is m n (Function ∷ []) q z)
        ];
        not_ended = λ m l u z. elim (below_or m n (omega arith)) [
          | inl v ↦ f.1.not_ended m l v z
          | inr q ↦ is_not_at is n (class_of i.opcode) (FunctionEnd ∷ []) (class_at is n i h) (g ∙ ended)
              (at_moved is m n (FunctionEnd ∷ []) q z)
        ];
      },
    )
  where
    ends : (c : Bool) → not c ≡ true → c ≡ false
    ends true x = cc
    ends false x = refl

step_on : (is : List PlainInst) (n : ℕ) (i : PlainInst) → slice_get is n ≡ Some i → (p : Reached is n)
    → (o : Option State) → next_of p.state (class_of i.opcode) ≡ o → Reached is (suc n)
step_on is n i h p None e =
    let r : Remains p.state (class_of i.opcode ∷ classes (drop (suc n) is)) = subst (λ js. Remains p.state (classes js))
    (from_here is n i h) p.remains in
    absurd (goes_no_further p.state (class_of i.opcode) e (classes (drop (suc n) is)) r)
step_on is n i h p (Some t) e =
    let r : Remains p.state (class_of i.opcode ∷ classes (drop (suc n) is)) = subst (λ js. Remains p.state (classes js))
    (from_here is n i h) p.remains in
    let fine = fine_move p.state (class_of i.opcode) t e in
    record {
      state = t;
      remains = (goes_on p.state t (class_of i.opcode) e (classes (drop (suc n) is))).forth r;
      opened = goes is n i p.state t (is_among (class_of i.opcode) (Function ∷ []))
          (is_among (class_of i.opcode) (FunctionEnd ∷ [])) h refl refl fine.opens p.opened;
    }

reached : (is : List PlainInst) → IsLayout (classes is) → (n : ℕ) → n ≤ length is → Reached is n
reached is laid zero h =
    record { state = at.Capabilities; remains = layout_remains (classes is) laid; opened = λ e. cc }
reached is laid (suc n) h =
    let i = some_inst is n (omega (arith, h)) in
    let p = reached is laid n (omega (arith, h)) in
    step_on is n i.0 i.1 p (next_of p.state (class_of i.0.opcode)) refl

-- where a parameter, and where a return may come
parameter_open : (s t : State) → next_of s Parameter ≡ Some t → is_open s ≡ true
parameter_open at.Function t e = refl
parameter_open at.Definition t e = refl
parameter_open _ t e = cc

return_open : (s t : State) → next_of s Return ≡ Some t → is_open s ≡ true
return_open at.Variables t e = refl
return_open at.Phis t e = refl
return_open at.Body t e = refl
return_open _ t e = cc

of_open : (is : List PlainInst) (n f : ℕ) (i : PlainInst) → slice_get is n ≡ Some i
    → is_among (class_of i.opcode) (Function ∷ []) ≡ false → Opened is n f → IsOfFunction is n f
of_open is n f i h e o =
    let w = slice_get_within is n i h in
    let below = o.below in
    record {
      begun = record {
        within = w;
        up_to = omega arith;
        there = o.there;
        last = λ k a b z. elim (below_or k n b) [
          | inl g ↦ o.last k a g z
          | inr q ↦ is_not_at is n (class_of i.opcode) (Function ∷ []) (class_at is n i h) e
              (at_moved is k n (Function ∷ []) q z)
        ];
      };
      not_ended = o.not_ended;
    }

-- an instruction of a class that comes only where a function is open
of_class : (is : List PlainInst) → IsLayout (classes is) → (n : ℕ) (i : PlainInst) (c : Class) → slice_get is n ≡ Some i
    → class_of i.opcode ≡ c → is_among c (Function ∷ []) ≡ false
    → ((s t : State) → next_of s c ≡ Some t → is_open s ≡ true) → (f : ℕ) × IsOfFunction is n f
of_class is laid n i c h e apart opens =
    let w = slice_get_within is n i h in
    let p = reached is laid n (omega arith) in
    by p (next_of p.state (class_of i.opcode)) refl
  where
    by : (p : Reached is n) (o : Option State) → next_of p.state (class_of i.opcode) ≡ o → (f : ℕ) × IsOfFunction is n f
    by p None q =
        let r : Remains p.state (class_of i.opcode ∷ classes (drop (suc n) is)) = subst
        (λ js. Remains p.state (classes js)) (from_here is n i h) p.remains in
        absurd (goes_no_further p.state (class_of i.opcode) q (classes (drop (suc n) is)) r)
    by p (Some t) q =
        let f = p.opened (opens p.state t (sym (ap (next_of p.state) e) ∙ q)) in
        (f.0, of_open is n f.0 i h (ap (λ d. is_among d (Function ∷ [])) e ∙ apart) f.1)

class_of_parameter : class_of opcode.FUNCTION_PARAMETER ≡ Parameter
unfolding rows
class_of_parameter = refl

class_of_return : class_of opcode.RETURN ≡ Return
unfolding rows
class_of_return = refl

class_of_value : class_of opcode.RETURN_VALUE ≡ Return
unfolding rows
class_of_value = refl

pub parameter_standing : (is : List PlainInst) → IsLayout (classes is) → (n : ℕ) (i : PlainInst)
    → slice_get is n ≡ Some i → i.opcode ≡ opcode.FUNCTION_PARAMETER → (f : ℕ) × IsOfFunction is n f
parameter_standing is laid n i h e =
    of_class is laid n i Parameter h (ap class_of e ∙ class_of_parameter) refl parameter_open

pub return_standing : (is : List PlainInst) → IsLayout (classes is) → (n : ℕ) (i : PlainInst) → slice_get is n ≡ Some i
    → i.opcode ≡ opcode.RETURN → (f : ℕ) × IsOfFunction is n f
return_standing is laid n i h e = of_class is laid n i Return h (ap class_of e ∙ class_of_return) refl return_open

pub value_standing : (is : List PlainInst) → IsLayout (classes is) → (n : ℕ) (i : PlainInst) → slice_get is n ≡ Some i
    → i.opcode ≡ opcode.RETURN_VALUE → (f : ℕ) × IsOfFunction is n f
value_standing is laid n i h e = of_class is laid n i Return h (ap class_of e ∙ class_of_value) refl return_open
