-- Each step keeps what holds of the frames.
use Rattle.std.proofs.Common.{◌≡◌, ◌∙◌, ℕ, List, [], ◌∷◌, map, Bool, true, false, IsTrue, Option, Some, None, refl, sym}
use Rattle.std.proofs.Common.{ap, subst, Contains, slice_get}
use Rattle.std.proofs.lemmas.Option.{same_Some}
use Rattle.spv_table.specs.Table.{Table}
use Rattle.spv_module.specs.Operand.{PlainInst, Id, type_in}
use Rattle.spv_run.specs.Act.{Act, Function, Parameter, FunctionEnd, Label, Phi, Branch, Choose, Call, Return}
use Rattle.spv_run.specs.Act.{ReturnValue, Other, act_of}
use Rattle.spv_run.specs.At.{act_at, type_at}
use Rattle.spv_run.specs.inner.At.{targets, goes_on}
use Rattle.spv_run.specs.Head.{IsDefined, Binding}
use Rattle.spv_run.proofs.Place.{IsFunction}
use Rattle.spv_run.specs.Row.{Row}
use Rattle.spv_run.proofs.Rows.{CallFits, call_fits, phi_typed, PhiTyped, ids_same, returned_value}
use Rattle.spv_run.specs.State.{Frame, State, Outcome, Goes, Last, Before, advance, jump, enter, rebind, returned}
use Rattle.spv_run.specs.State.{with_top}
use Rattle.spv_run.specs.Machine.{Lands, definition, declaration, Moves, Does, step, no_choice, bad_choice}
use Rattle.spv_run.specs.Run.{IsStart, Reaches, none, more}
use Rattle.spv_run.proofs.Checked.{IsChecked}
use Rattle.spv_run.proofs.Basics.{act_back, act_here, type_here, contains_here, contains_at}
use Rattle.spv_run.proofs.Frames.{Stands, enters, advances, jumped}
use Rattle.spv_run.proofs.Standing.{block_of, label_from, function_of, result_of}

-- a frame stands at a call of a function, whose result type the call has
pub record CallsTo (is : List PlainInst) (fr : Frame) (g : ℕ) : Type 0 where
  pub callee : ℕ
  pub arguments : List ℕ
  pub call : act_at is fr.position ≡ Some (Call callee arguments)
  pub function : IsFunction is g callee
  pub entry : ℕ
  pub parameters : List Binding
  pub defined : IsDefined is g entry parameters
  pub returns : type_at is fr.position ≡ type_at is g

-- Each frame stands on a walk; the lowest is of function e, and each other one of the function that the frame below it
-- calls.
abbrev pub Stack : List PlainInst → ℕ → Frame → List Frame → Type 0
Stack is e fr [] = Stands is fr × (fr.function ≡ e)
Stack is e fr (c ∷ below) = Stands is fr × CallsTo is c fr.function × Stack is e c below

pub top_stands : (is : List PlainInst) (e : ℕ) (fr : Frame) (below : List Frame) → Stack is e fr below → Stands is fr
top_stands is e fr [] s = s.0
top_stands is e fr (c ∷ below) s = s.0

-- the running frame replaced by another of its function
retop : (is : List PlainInst) (e : ℕ) (fr after : Frame) (below : List Frame) → Stack is e fr below → Stands is after
    → after.function ≡ fr.function → Stack is e after below
retop is e fr after [] s st same = (st, same ∙ s.1)
retop is e fr after (c ∷ below) s st same =
    (let P : ℕ → Type 0 = λ f. CallsTo is c f in (st, subst P (sym same) s.1, s.2))

goes_same : (s t : State) → Goes s ≡ Goes t → t ≡ s
goes_same s t e = cc

abbrev Keeps : List PlainInst → ℕ → State → Type 0
Keeps is e s = Stack is e s.top s.below

kept_by : (is : List PlainInst) (e : ℕ) (after made : State) → Goes after ≡ Goes made → Keeps is e made
    → Keeps is e after
kept_by is e after made h k = let P : State → Type 0 = λ s. Keeps is e s in subst P (goes_same after made h) k

-- parameters bound to their own types
rebind_same : (bs : List Binding) → rebind bs (map (λ (b : Binding). b.tag) bs) ≡ bs
rebind_same [] = refl
rebind_same (b ∷ bs) = ap (λ cs. record { id = b.id; tag = b.tag } ∷ cs) (rebind_same bs)

advanced : (G : Table) (is : List PlainInst) → IsChecked G is → (e : ℕ) (s after : State) → Stack is e s.top s.below
    → (a : Act) → act_at is s.top.position ≡ Some a → IsTrue (goes_on a)
    → (tag : Option ℕ) → type_at is s.top.position ≡ tag → Goes after ≡ Goes (with_top s (advance is s.top tag))
    → Keeps is e after
advanced G is ok e s after k a h goes tag y eq =
    let st = top_stands is e s.top s.below k in
    kept_by is e after (with_top s (advance is s.top tag)) eq
    (retop is e s.top (advance is s.top tag) s.below k (advances is ok.layout ok.once s.top st a h goes tag y) refl)

landed : (G : Table) (is : List PlainInst) → IsChecked G is → (e : ℕ) (s after : State) (cs : List ℕ)
    → Stack is e s.top s.below → (a : Act) (x : ℕ) → act_at is s.top.position ≡ Some a → goes_on a ≡ false
    → Contains (targets a) x → (fr : Frame) → Lands is s.top x fr
    → Goes after ≡ Goes (record { top = fr; below = s.below; choices = cs }) → Keeps is e after
landed G is ok e s after cs k a x h stops c fr l eq =
    let st = top_stands is e s.top s.below k in
    let leaves = block_of G is ok.fits ok.laying l.block s.top.position l.leaves in
    let j = jumped is ok.layout s.top st a x h stops c l.block l.place leaves (label_from is l.place x l.label)
    (function_of G is ok.fits s.top.function l.place l.inside) in
    let P : Frame → Type 0 = λ f. Stack is e f s.below in
    kept_by is e after (record { top = fr; below = s.below; choices = cs }) eq
    (subst P (sym l.comes) (retop is e s.top (jump s.top l.block l.place) s.below k j refl))

first_same : (x y : ℕ) (xs ys : List ℕ) → x ∷ xs ≡ y ∷ ys → x ≡ y
first_same x y xs ys e = cc

rest_same : (x y : ℕ) (xs ys : List ℕ) → x ∷ xs ≡ y ∷ ys → xs ≡ ys
rest_same x y xs ys e = cc

entered : (G : Table) (is : List PlainInst) → IsChecked G is → (e : ℕ) (s after : State) → Stack is e s.top s.below
    → (i : PlainInst) → slice_get is s.top.position ≡ Some i
    → (x : ℕ) (xs tags : List ℕ) → act_at is s.top.position ≡ Some (Call x xs) → CallFits is x (type_in i.operands) tags
    → (g b : ℕ) (bs : List Binding) → IsFunction is g x → IsDefined is g b bs
    → Goes after ≡ Goes (record { top = enter g b (rebind bs tags); below = s.top ∷ s.below; choices = s.choices })
    → Keeps is e after
entered G is ok e s after k i at x xs tags h row g b bs f d eq =
    let made : State = record { top = enter g b (rebind bs tags); below = s.top ∷ s.below; choices = s.choices } in
    let place : row.callee ≡ g = ok.once row.callee g x row.function.result f.result in
    let there : slice_get is g ≡ Some row.inst = ap (slice_get is) (sym place) ∙ row.there in
    let own = ok.signatures g b bs row.inst there d in
    let lists : map Id (row.returns ∷ tags) ≡ map Id (own.0 ∷ map (λ (c : Binding). c.tag) bs) = same_Some _ _
    (sym row.signature ∙ own.2) in
    let both : row.returns ∷ tags ≡ own.0 ∷ map (λ (c : Binding). c.tag) bs = ids_same _ _ lists in
    let tags_are : tags ≡ map (λ (c : Binding). c.tag) bs = rest_same row.returns own.0 tags
    (map (λ (c : Binding). c.tag) bs) both in
    let returns_are : row.returns ≡ own.0 = first_same row.returns own.0 tags (map (λ (c : Binding). c.tag) bs) both in
    let bound : bs ≡ rebind bs tags = sym (ap (rebind bs) tags_are ∙ rebind_same bs) in
    let Q : List Binding → Type 0 = λ cs. Stands is (enter g b cs) in
    let returns : type_at is s.top.position ≡ type_at is g =
    type_here is s.top.position i at ∙ (row.returned
    ∙ (ap Some returns_are ∙ (sym own.1 ∙ sym (type_here is g row.inst there)))) in
    kept_by is e after made eq (
      subst Q bound (enters is ok.layout ok.once g b bs d),
      record {
        callee = x;
        arguments = xs;
        call = h;
        function = f;
        entry = b;
        parameters = bs;
        defined = d;
        returns = returns;
      },
      k,
    )

popped : (G : Table) (is : List PlainInst) → IsChecked G is
    → (e : ℕ) (fr : Frame) (below : List Frame) (cs : List ℕ) (t : ℕ) (after : State) → Stack is e fr below
    → type_at is fr.function ≡ Some t
    → Goes after ≡ returned is below cs t → Keeps is e after
popped G is ok e fr [] cs t after k y eq = absurd (never eq) where
  going : Outcome → Bool
  going (Goes s) = true
  going (Last z) = false
  going (Before z) = false

  never : {z : _} → Goes after ≡ Last z → ⊥
  never q = let w : true ≡ false = ap going q in cc
popped G is ok e fr (c ∷ below) cs t after k y eq =
    let rest = k.2 in
    let st = top_stands is e c below rest in
    kept_by is e after (record { top = advance is c (Some t); below = below; choices = cs }) eq
    (retop is e c (advance is c (Some t)) below rest
    (advances is ok.layout ok.once c st (Call k.1.callee k.1.arguments) k.1.call refl (Some t) (k.1.returns ∙ y)) refl)

moved : (G : Table) (is : List PlainInst) → IsChecked G is → (e : ℕ) (s after : State) → Stack is e s.top s.below
    → (i : PlainInst) → slice_get is s.top.position ≡ Some i
    → (a : Act) → act_at is s.top.position ≡ Some a → (tags : List ℕ) → Row is s.top.function s.top.position i a tags
    → Moves is s a tags (Goes after) → Keeps is e after
moved G is ok e s after k i at Function h tags row m = absurd m
moved G is ok e s after k i at Parameter h tags row m = absurd m
moved G is ok e s after k i at FunctionEnd h tags row m = absurd m
moved G is ok e s after k i at Act.Misfit h tags row m = absurd m
moved G is ok e s after k i at Label h tags row m =
    let none : type_at is s.top.position ≡ None = (ok.layout.labels s.top.position h).4 in
    advanced G is ok e s after k Label h refl None none m
moved G is ok e s after k i at (Phi ps) h tags row (t, one, m) =
    let P : List ℕ → Type 0 = λ ts. PhiTyped is i ts in
    let j = act_back is s.top.position (Phi ps) h in
    let inst : j.0 ≡ i = same_Some j.0 i (sym j.1 ∙ at) in
    let known = subst P one (phi_typed G is s.top.position i ps tags (ok.fits s.top.position i at)
    (ap act_of (sym inst) ∙ j.2) row) in
    advanced G is ok e s after k (Phi ps) h refl (Some t)
    (type_here is s.top.position i at ∙ (known.result ∙ ap Some (sym known.each.0))) m
moved G is ok e s after k i at (Branch x) h tags row (fr, l, m) =
    landed G is ok e s after s.choices k (Branch x) x h refl (contains_here x []) fr l m
moved G is ok e s after k i at (Choose c ls) h tags row (x, left, fr, g, l, m) =
    landed G is ok e s after left k (Choose c ls) x h refl (contains_at ls g.choice x g.chosen) fr l m
moved G is ok e s after k i at (Call x xs) h tags row (definition g b bs f d m) =
    entered G is ok e s after k i at x xs tags h (call_fits is s.top.function s.top.position i x xs tags row) g b bs
    (record { act = d.function; result = result_of is g x f }) d m
moved G is ok e s after k i at (Call x xs) h tags row (declaration g b bs f d m) =
    advanced G is ok e s after k (Call x xs) h refl (type_at is s.top.position) refl m
moved G is ok e s after k i at Return h tags row (t, y, m) = popped G is ok e s.top s.below s.choices t after k y m
moved G is ok e s after k i at (ReturnValue x) h tags row (t, one, m) =
    let r = returned_value is s.top.function tags row in
    let same : r.0 ∷ [] ≡ t ∷ [] = sym r.1 ∙ one in
    let y : type_at is s.top.function ≡ Some t = r.2 ∙ ap Some (first_same r.0 t [] [] same) in
    popped G is ok e s.top s.below s.choices t after k y m
moved G is ok e s after k i at Act.Unreachable h tags row m = absurd (cc)
moved G is ok e s after k i at Other h tags row m =
    advanced G is ok e s after k Other h refl (type_at is s.top.position) refl m

-- what holds of the frames, holds after a step
pub preserved : (G : Table) (is : List PlainInst) → IsChecked G is → (e : ℕ) (s after : State)
    → Stack is e s.top s.below → Does G is s (Goes after) → Stack is e after.top after.below
preserved G is ok e s after k (step i xs tags at which reads others row m) =
    moved G is ok e s after k i at (act_of i) (act_here is s.top.position i at) tags row m
preserved G is ok e s after k (no_choice i c ls at a empty o) = absurd (cc)
preserved G is ok e s after k (bad_choice i c n ls left at a some out o) = absurd (cc)

-- at the start, and in every state that is reached
pub started : (G : Table) (is : List PlainInst) → IsChecked G is → (g : ℕ) (choices : List ℕ) (s : State)
    → IsStart is g choices s → Stack is g s.top s.below
started G is ok g choices s start =
    let P : State → Type 0 = λ t. Stack is g t.top t.below in
    subst P (sym start.start) (enters is ok.layout ok.once g start.entry start.parameters start.defined, refl)

pub reached : (G : Table) (is : List PlainInst) → IsChecked G is → (e : ℕ) (s : State) → Stack is e s.top s.below
    → (after : State) → Reaches G is s after → Stack is e after.top after.below
reached G is ok e s k _ none = k
reached G is ok e s k _ (more mid after r d) = preserved G is ok e mid after (reached G is ok e s k mid r) d
