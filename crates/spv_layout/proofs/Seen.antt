-- What is laid out as a profile sees it is laid out.
use Rattle.std.proofs.Common.{ℕ, if◌then◌else◌, ◌≡◌, List, [], ◌∷◌, refl, Bool, true, false, Option, Some, None}
use Rattle.spv_module.specs.declared.profile.Profile.{Profile}
use Rattle.spv_module.specs.declared.profile.Profile.TheVariants.{Own, OpenCl}
use Rattle.spv_layout.specs.declared.class.Class.{Class}
use Rattle.spv_layout.specs.declared.class.Class.TheVariants.{Undef, Body, Branch, BranchConditional, Switch, Return, LoopMerge, SelectionMerge, Line, Extended, Outside}
use Rattle.spv_layout.specs.declared.state.State.{State}
use Rattle.spv_layout.specs.declared.state.State.TheVariants as at
use Rattle.spv_module.specs.Operand.{PlainInst}
use Rattle.spv_layout.specs.Row.{PlainRow}
use Rattle.spv_layout.specs.Rows.{row_of, class_in, class_of}
use Rattle.spv_layout.specs.Profile.{has_row}
use Rattle.spv_layout.specs.Layout.{IsLayout, classes, seen, class_under, seen_classes}
use Rattle.spv_layout.specs.inner.State.{next_of, may_stop, Remains}
use Rattle.spv_layout.proofs.Remains.{goes_on, goes_no_further}
use Rattle.spv_layout.proofs.Layouts.{layout_remains, stops_not_there, leads_end}
use Rattle.spv_layout.proofs.Worked.{run, run_none, leads_by}

-- a profile sees a class other than that of OpExtInst as it is
pub seen_other : (p : Profile) (c : Class) → (c ≡ Extended → ⊥) → seen p c ≡ c
seen_other OpenCl c h = refl
seen_other Own Extended h = absurd (h refl)
seen_other Own c h = refl

-- a list leads from a state to one at which a module may stop
pub record EndsWell (o : Option State) (cs : List Class) : Type 0 where
  pub state : State
  pub run : run o cs ≡ Some state
  pub stops : may_stop state ≡ true

stops_by : (b : Bool) (s : State) → may_stop s ≡ b → Remains s [] → may_stop s ≡ true
stops_by true s e r = e
stops_by false s e r = absurd (stops_not_there s e r)

ends_step : (o : Option State) (s : State) (c : Class) (cs : List Class) → next_of s c ≡ o → Remains s (c ∷ cs)
    → ((t : State) → Remains t cs → EndsWell (Some t) cs) → EndsWell o cs
ends_step None s c cs e r k = absurd (goes_no_further s c e cs r)
ends_step (Some t) s c cs e r k = k t ((goes_on s t c e cs).forth r)

-- what a state leaves
pub ends_well : (cs : List Class) (s : State) → Remains s cs → EndsWell (Some s) cs
ends_well [] s r = record { state = s; run = refl; stops = stops_by (may_stop s) s refl r }
ends_well (c ∷ cs) s r =
    let e = ends_step (next_of s c) s c cs refl r (ends_well cs) in
    record { state = e.state; run = e.run; stops = e.stops }

-- a state after classes as they are seen without OpenCL, and that after them as they are
data Close : State → State → Type 0 where
  same : (s : State) → Close s s
  variables : Close at.Body at.Variables
  phis : Close at.Body at.Phis

record CloseNext (t u : State) (c : Class) : Type 0 where
  pub state : State
  pub next : next_of u c ≡ Some state
  pub close : Close t state

close_moved : (s t u : State) → s ≡ t → Close s u → Close t u
close_moved s t u e k = rw (← e) k

next_same : (s t u : State) (c : Class) → next_of u c ≡ Some s → s ≡ t → CloseNext t u c
next_same s t u c e x = record { state = s; next = e; close = close_moved s t s x (Close.same s) }

extended_next : (s t : State) → next_of s Body ≡ Some t → CloseNext t s Extended
extended_next at.Variables t e = let x : at.Body ≡ t = cc in record { state = at.Variables; next = refl; close = close_moved at.Body t at.Variables x Close.variables }
extended_next at.Phis t e = let x : at.Body ≡ t = cc in record { state = at.Phis; next = refl; close = close_moved at.Body t at.Phis x Close.phis }
extended_next at.Body t e = let x : at.Body ≡ t = cc in next_same at.Body t at.Body Extended refl x
extended_next _ t e = cc

alike_next : (s t : State) (c : Class) → next_of s (seen Own c) ≡ Some t → CloseNext t s c
alike_next s t Extended e = extended_next s t e
alike_next s t c e = record { state = t; next = e; close = Close.same t }

variables_next : (t : State) (c : Class) → next_of at.Body (seen Own c) ≡ Some t → CloseNext t at.Variables c
variables_next t Extended e = let x : at.Body ≡ t = cc in record { state = at.Variables; next = refl; close = close_moved at.Body t at.Variables x Close.variables }
variables_next t Line e = let x : at.Body ≡ t = cc in record { state = at.Variables; next = refl; close = close_moved at.Body t at.Variables x Close.variables }
variables_next t Undef e = let x : at.Body ≡ t = cc in next_same at.Body t at.Variables Undef refl x
variables_next t Body e = let x : at.Body ≡ t = cc in next_same at.Body t at.Variables Body refl x
variables_next t Branch e = let x : at.Block ≡ t = cc in next_same at.Block t at.Variables Branch refl x
variables_next t BranchConditional e = let x : at.Block ≡ t = cc in next_same at.Block t at.Variables BranchConditional refl x
variables_next t Switch e = let x : at.Block ≡ t = cc in next_same at.Block t at.Variables Switch refl x
variables_next t Return e = let x : at.Block ≡ t = cc in next_same at.Block t at.Variables Return refl x
variables_next t LoopMerge e = let x : at.LoopMerge ≡ t = cc in next_same at.LoopMerge t at.Variables LoopMerge refl x
variables_next t SelectionMerge e = let x : at.SelectionMerge ≡ t = cc in next_same at.SelectionMerge t at.Variables SelectionMerge refl x
variables_next t _ e = cc

phis_next : (t : State) (c : Class) → next_of at.Body (seen Own c) ≡ Some t → CloseNext t at.Phis c
phis_next t Extended e = let x : at.Body ≡ t = cc in record { state = at.Phis; next = refl; close = close_moved at.Body t at.Phis x Close.phis }
phis_next t Line e = let x : at.Body ≡ t = cc in record { state = at.Phis; next = refl; close = close_moved at.Body t at.Phis x Close.phis }
phis_next t Undef e = let x : at.Body ≡ t = cc in next_same at.Body t at.Phis Undef refl x
phis_next t Body e = let x : at.Body ≡ t = cc in next_same at.Body t at.Phis Body refl x
phis_next t Branch e = let x : at.Block ≡ t = cc in next_same at.Block t at.Phis Branch refl x
phis_next t BranchConditional e = let x : at.Block ≡ t = cc in next_same at.Block t at.Phis BranchConditional refl x
phis_next t Switch e = let x : at.Block ≡ t = cc in next_same at.Block t at.Phis Switch refl x
phis_next t Return e = let x : at.Block ≡ t = cc in next_same at.Block t at.Phis Return refl x
phis_next t LoopMerge e = let x : at.LoopMerge ≡ t = cc in next_same at.LoopMerge t at.Phis LoopMerge refl x
phis_next t SelectionMerge e = let x : at.SelectionMerge ≡ t = cc in next_same at.SelectionMerge t at.Phis SelectionMerge refl x
phis_next t _ e = cc

close_next : (s t u : State) (c : Class) → Close s u → next_of s (seen Own c) ≡ Some t → CloseNext t u c
close_next s t _ c (Close.same _) e = alike_next s t c e
close_next _ t _ c Close.variables e = variables_next t c e
close_next _ t _ c Close.phis e = phis_next t c e

close_stops : (t u : State) → Close t u → may_stop t ≡ true → may_stop u ≡ true
close_stops t _ (Close.same _) h = h
close_stops _ _ Close.variables h = cc
close_stops _ _ Close.phis h = cc

close_end : (t s u : State) → s ≡ t → may_stop t ≡ true → Close s u → may_stop u ≡ true
close_end t s u e h k = close_stops s u k (rw e h)

runs_moved : (o p : Option State) (cs : List Class) → o ≡ p → EndsWell p cs → EndsWell o cs
runs_moved o p cs e w = rw e w

-- no module goes on with an opcode outside the profile
pub outside : (s : State) → next_of s Outside ≡ None
outside at.Capabilities = refl
outside _ = refl

under_by : (b : Bool) (s t : State) (c : Class) → next_of s (if b then c else Outside) ≡ Some t → next_of s c ≡ Some t
under_by true s t c e = e
under_by false s t c e = let z = outside s in cc

pub next_under : (p : Profile) (s t : State) (n : ℕ) → next_of s (class_under p n) ≡ Some t → next_of s (seen p (class_of n)) ≡ Some t
next_under p s t n e = under_by (has_row p (row_of n)) s t (seen p (class_of n)) e

-- the class of an opcode that the profile has
pub class_known : (p : Profile) (n : ℕ) → has_row p (row_of n) ≡ true → class_under p n ≡ seen p (class_of n)
class_known p n h = rw h refl

-- a list that leads well as it is seen without OpenCL leads well
close_run_by : (o : Option State) (i : PlainInst) (is : List PlainInst) (s u : State) → next_of s (class_under Own i.opcode) ≡ o → Close s u → EndsWell o (seen_classes Own is)
    → ((t v : State) → Close t v → EndsWell (Some t) (seen_classes Own is) → EndsWell (Some v) (classes is)) → EndsWell (next_of u (class_of i.opcode)) (classes is)
close_run_by None i is s u e k w rest = absurd (run_none (seen_classes Own is) w.state w.run)
close_run_by (Some t) i is s u e k w rest =
    let n = close_next s t u (class_of i.opcode) k (next_under Own s t i.opcode e) in
    runs_moved (next_of u (class_of i.opcode)) (Some n.state) (classes is) n.next (rest t n.state n.close w)

close_run : (is : List PlainInst) (s u : State) → Close s u → EndsWell (Some s) (seen_classes Own is) → EndsWell (Some u) (classes is)
close_run [] s u k w =
    let x : s ≡ w.state = (let r = w.run in cc) in
    record { state = u; run = refl; stops = close_end w.state s u x w.stops k }
close_run (i ∷ is) s u k w =
    let v : EndsWell (next_of s (class_under Own i.opcode)) (seen_classes Own is) = record { state = w.state; run = w.run; stops = w.stops } in
    let r = close_run_by (next_of s (class_under Own i.opcode)) i is s u refl k v (close_run is) in
    record { state = r.state; run = r.run; stops = r.stops }

-- OpenCL sees each class as it is
open_class : (o : Option PlainRow) → (if has_row OpenCl o then class_in o else Outside) ≡ class_in o
open_class None = refl
open_class (Some r) = refl

seen_all : (is : List PlainInst) → seen_classes OpenCl is ≡ classes is
seen_all [] = refl
seen_all (i ∷ is) = rw (open_class (row_of i.opcode), seen_all is) refl

own_layout : (is : List PlainInst) → IsLayout (seen_classes Own is) → IsLayout (classes is)
own_layout is l =
    let w = ends_well (seen_classes Own is) at.Capabilities (layout_remains (seen_classes Own is) l) in
    let v = close_run is at.Capabilities at.Capabilities (Close.same at.Capabilities) w in
    leads_end (classes is) v.state v.stops (leads_by (classes is) v.state v.run)

layout_moved : (cs ds : List Class) → cs ≡ ds → IsLayout cs → IsLayout ds
layout_moved cs ds e l = rw (← e) l

pub seen_layout : (p : Profile) (is : List PlainInst) → IsLayout (seen_classes p is) → IsLayout (classes is)
seen_layout Own is l = own_layout is l
seen_layout OpenCl is l = layout_moved (seen_classes OpenCl is) (classes is) (seen_all is) l

pub wider_layout : (is : List PlainInst) → IsLayout (seen_classes Own is) → IsLayout (seen_classes OpenCl is)
wider_layout is l = rw (seen_all is) (own_layout is l)
