-- Where the running frame stands on a walk, something comes of the state.
use Rattle.std.proofs.Common.{◌≡◌, ◌∙◌, ◌⊎◌, inl, inr, ℕ, List, [], ◌∷◌, true, false, IsTrue, Option, Some, None, refl}
use Rattle.std.proofs.Common.{sym, subst, Contains, slice_get}
use Rattle.spv_table.specs.Table.{Table}
use Rattle.spv_module.specs.Operand.{PlainInst}
use Rattle.spv_run.specs.Act.{Act, Function, Parameter, FunctionEnd, Label, Phi, Branch, Choose, Call, Return}
use Rattle.spv_run.specs.Act.{ReturnValue, Other, act_of}
use Rattle.spv_run.specs.At.{act_at, type_at}
use Rattle.spv_run.specs.inner.At.{targets, in_block}
use Rattle.spv_run.specs.Row.{Row}
use Rattle.spv_run.specs.State.{Frame, State, Outcome, Goes, Last, Before, NoChoice, BadChoice, advance, jump, enter}
use Rattle.spv_run.specs.State.{rebind, returned, with_top}
use Rattle.spv_run.specs.Machine.{ReadsAll, read_values, Lands, definition, declaration, Moves, Does, step, no_choice}
use Rattle.spv_run.specs.Machine.{bad_choice}
use Rattle.spv_run.specs.State as machine
use Rattle.spv_run.proofs.Checked.{IsChecked}
use Rattle.spv_run.proofs.Basics.{act_here, contains_here, contains_at, act_back}
use Rattle.spv_run.proofs.Rows.{call_fits, returned_nothing, returned_value}
use Rattle.spv_run.proofs.Frames.{Stands}
use Rattle.spv_run.proofs.Standing.{block_place, of_function, label_to, defined_at, here_within}
use Rattle.spv_run.proofs.Readings.{reading, phi_tags}

-- a target is a label of the frame's function
pub lands : (G : Table) (is : List PlainInst) → IsChecked G is → (fr : Frame) → Stands is fr → (a : Act) (x : ℕ)
    → act_at is fr.position ≡ Some a → Contains (targets a) x
    → (after : Frame) × Lands is fr x after
lands G is ok fr st a x h c =
    let label = ok.labels fr.position x a h c in
    let m = label.0 in (
      jump fr st.block m,
      record {
        block = st.block;
        leaves = block_place G is ok.fits ok.layout st.block fr.position st.here
            (here_within is fr.position st.act st.there);
        place = m;
        label = label_to G is ok.fits m x label.1;
        inside = of_function G is ok.fits ok.layout fr.function m
            (ok.scope fr.function fr.position m x a st.inside h c label.1) (here_within is m Label label.1.act);
        comes = refl;
      },
    )

-- the instruction's part of what comes
pub data Leads (is : List PlainInst) (s : State) (a : Act) (tags : List ℕ) : Type 0 where
  moves : (o : Outcome) → Moves is s a tags o → Leads is s a tags
  out_of_choices : (c : ℕ) (ls : List ℕ) → a ≡ Choose c ls → s.choices ≡ [] → Leads is s a tags
  no_target : (c k : ℕ) (ls left : List ℕ) → a ≡ Choose c ls → s.choices ≡ k ∷ left → slice_get ls k ≡ None
      → Leads is s a tags

not_here : (is : List PlainInst) (s : State) (a : Act) (tags : List ℕ) → in_block a ≡ false → (a ≡ Label → ⊥)
    → (a ≡ Label) ⊎ IsTrue (in_block a) → Leads is s a tags
not_here is s a tags h g fit =
    elim fit [ inl e ↦ absurd (g e) | inr t ↦ absurd (let w : true ≡ false = sym t ∙ h in cc) ]

chosen : (G : Table) (is : List PlainInst) → IsChecked G is → (s : State) → Stands is s.top → (c : ℕ) (ls tags : List ℕ)
    → act_at is s.top.position ≡ Some (Choose c ls)
    → (k : ℕ) (left : List ℕ) → s.choices ≡ k ∷ left → Leads is s (Choose c ls) tags
chosen G is ok s st c ls tags h k left e = by_target (slice_get ls k) refl where
  by_target : (o : Option ℕ) → slice_get ls k ≡ o → Leads is s (Choose c ls) tags
  by_target None g = no_target c k ls left refl e g
  by_target (Some x) g =
      let r = lands G is ok s.top st (Choose c ls) x h (contains_at ls k x g) in
      moves (Goes (record { top = r.0; below = s.below; choices = left }))
      (x, left, r.0, record { choice = k; taken = e; chosen = g }, r.1, refl)

called : (G : Table) (is : List PlainInst) → IsChecked G is → (s : State) → (i : PlainInst) (x : ℕ) (xs tags : List ℕ)
    → Row is s.top.function s.top.position i (Call x xs) tags → Leads is s (Call x xs) tags
called G is ok s i x xs tags row =
    let fit = call_fits is s.top.function s.top.position i x xs tags row in
    let head = ok.layout.heads fit.callee fit.function.act in
    elim head.2 [
      | inl d ↦ moves (Goes (record {
        top = enter fit.callee head.0 (rebind head.1 tags);
        below = s.top ∷ s.below;
        choices = s.choices;
      }))
          (definition fit.callee head.0 head.1 (defined_at is fit.callee x fit.function.result) d refl)
      | inr d ↦ moves (Goes (with_top s (advance is s.top (type_at is s.top.position))))
          (declaration fit.callee head.0 head.1 (defined_at is fit.callee x fit.function.result) d refl)
    ]

leads : (G : Table) (is : List PlainInst) → IsChecked G is → (s : State) → Stands is s.top → (i : PlainInst) (a : Act)
    → act_at is s.top.position ≡ Some a → (a ≡ Label) ⊎ IsTrue (in_block a)
    → (xs tags : List ℕ) → read_values is s.top i a ≡ Some xs → ReadsAll is s.top xs tags
    → Row is s.top.function s.top.position i a tags → Leads is s a tags
leads G is ok s st i Function h fit xs tags v r row = not_here is s Function tags refl (λ e. cc) fit
leads G is ok s st i Parameter h fit xs tags v r row = not_here is s Parameter tags refl (λ e. cc) fit
leads G is ok s st i FunctionEnd h fit xs tags v r row = not_here is s FunctionEnd tags refl (λ e. cc) fit
leads G is ok s st i Act.Misfit h fit xs tags v r row = not_here is s Act.Misfit tags refl (λ e. cc) fit
leads G is ok s st i Label h fit xs tags v r row = moves (Goes (with_top s (advance is s.top None))) refl
leads G is ok s st i (Phi ps) h fit xs tags v r row =
    let t = phi_tags is s.top i ps xs tags v r in
    moves (Goes (with_top s (advance is s.top (Some t.0)))) (t.0, t.1, refl)
leads G is ok s st i (Branch x) h fit xs tags v r row =
    let l = lands G is ok s.top st (Branch x) x h (contains_here x []) in
    moves (Goes (with_top s l.0)) (l.0, l.1, refl)
leads G is ok s st i (Choose c ls) h fit xs tags v r row = by_choices s.choices refl where
  by_choices : (cs : List ℕ) → s.choices ≡ cs → Leads is s (Choose c ls) tags
  by_choices [] e = out_of_choices c ls refl e
  by_choices (k ∷ left) e = chosen G is ok s st c ls tags h k left e
leads G is ok s st i (Call x ys) h fit xs tags v r row = called G is ok s i x ys tags row
leads G is ok s st i Return h fit xs tags v r row =
    let t = returned_nothing is s.top.function row in
    moves (returned is s.below s.choices t.0) (t.0, t.1, refl)
leads G is ok s st i (ReturnValue x) h fit xs tags v r row =
    let t = returned_value is s.top.function tags row in
    moves (returned is s.below s.choices t.0) (t.0, t.1, refl)
leads G is ok s st i Act.Unreachable h fit xs tags v r row = moves (Last machine.Unreachable) refl
leads G is ok s st i Other h fit xs tags v r row =
    moves (Goes (with_top s (advance is s.top (type_at is s.top.position)))) refl

pub progress : (G : Table) (is : List PlainInst) → IsChecked G is → (s : State) → Stands is s.top
    → (o : Outcome) × Does G is s o
progress G is ok s st =
    let at = act_back is s.top.position st.act st.there in
    let i = at.0 in
    let r = reading G is ok s.top st i at.1 in
    let here = act_here is s.top.position i at.1 in
    let P : Act → Type 0 = λ a. (a ≡ Label) ⊎ IsTrue (in_block a) in
    let fit = subst P (sym at.2) st.fit in
    elim (leads G is ok s st i (act_of i) here fit r.values r.tags r.which r.read r.row) [
      | moves o m ↦ (o, step i r.values r.tags at.1 r.which r.read r.others r.row m)
      | out_of_choices c ls e g ↦ (Before NoChoice, no_choice i c ls at.1 e g refl)
      | no_target c k ls left e g w ↦ (Before BadChoice, bad_choice i c k ls left at.1 e g w refl)
    ]
