-- A turn is the machine's step without types.
use Rattle.std.proofs.Common.{◌≡◌, ◌∙◌, ℕ, suc, List, [], ◌∷◌, map, Option, Some, None, refl, sym, ap, subst, slice_get}
use Rattle.spv_table.specs.Table.{Table}
use Rattle.spv_module.specs.Operand.{PlainInst}
use Rattle.spv_run.specs.Act.{Act, Function, Parameter, FunctionEnd, Label, Phi, Branch, Choose, Call, Return}
use Rattle.spv_run.specs.Act.{ReturnValue, Other, act_of}
use Rattle.spv_run.specs.At.{act_at}
use Rattle.spv_run.specs.Act as act
use Rattle.spv_ids.specs.Definition.{IsDefinedAt}
use Rattle.spv_flow.specs.branches.Target.{IsLabelOf}
use Rattle.spv_run.specs.Head.{Binding, IsDefined, IsDeclared}
use Rattle.spv_run.specs.State.{Frame, State, Outcome, Goes, Last, Before, returned}
use Rattle.spv_run.specs.Machine.{Lands, Chooses, Enters, Moves, Does, step, no_choice, bad_choice}
use Rattle.spv_run.specs.State as machine
use Rattle.spv_run.proofs.Fit.{HasOneDefinition}
use Rattle.spv_run.specs.Trace.{ending_of}
use Rattle.spv_run.specs.inner.Trace.{Kept, Turn, at, at_call, by_caller, IsCalled, ByTarget, ByChoice, Comes}
use Rattle.spv_run.specs.inner.Trace as trace_inner
use Rattle.spv_run.proofs.Once.{head_once, label_ends, end_ends}
use Rattle.spv_run.proofs.Basics.{act_same}
use Rattle.spv_run.proofs.Standing.{result_of}

-- where frames go on after their calls
abbrev pub returns_to : List Frame → List ℕ
returns_to below = map (λ (fr : Frame). suc fr.position) below

abbrev pub kept_of : State → Kept
kept_of s = record { position = s.top.position; callers = returns_to s.below; choices = s.choices }

-- the turn is the outcome without types
abbrev pub Shows : Outcome → Turn → Type 0
Shows (Goes s) (trace_inner.Goes k) = k ≡ kept_of s
Shows (Last e) (trace_inner.Last f) = e ≡ ending_of f
Shows (Before e) (trace_inner.Before f) = e ≡ ending_of f
Shows _ _ = ⊥

shown : (o p : Outcome) (t u : Turn) → o ≡ p → t ≡ u → Shows p u → Shows o t
shown o p t u e f h =
    let P : Outcome → Type 0 = λ q. Shows q u in
    let Q : Turn → Type 0 = λ v. Shows o v in
    subst Q (sym f) (subst P (sym e) h)

one_label : (is : List PlainInst) → HasOneDefinition is → (n m x : ℕ) → IsLabelOf is x n → IsLabelOf is x m → n ≡ m
one_label is once n m x a b = once n m x (result_of is n x a.defined) (result_of is m x b.defined)

abbrev kept_at : ℕ → List ℕ → List ℕ → Kept
kept_at p ks ds = record { position = p; callers = ks; choices = ds }

landed : (is : List PlainInst) → HasOneDefinition is
    → (s : State) (cs : List ℕ) (o : Outcome) (t : Turn) (x n : ℕ) (fr : Frame) → Lands is s.top x fr → IsLabelOf is x n
    → o ≡ Goes (record { top = fr; below = s.below; choices = cs })
    → t ≡ trace_inner.Goes (kept_at n (returns_to s.below) cs) → Shows o t
landed is once s cs o t x n fr l label e f =
    let same : n ≡ fr.position = one_label is once n l.place x label l.label
    ∙ sym (ap (λ (f : Frame). f.position) l.comes) in
    shown o (Goes (record { top = fr; below = s.below; choices = cs })) t
    (trace_inner.Goes (kept_at n (returns_to s.below) cs)) e f (ap (λ p. kept_at p (returns_to s.below) cs) same)

chosen : (is : List PlainInst) → HasOneDefinition is
    → (s : State) (o : Outcome) (t : Turn) (ls left : List ℕ) (x : ℕ) (fr : Frame)
    → Chooses s.choices ls x left → Lands is s.top x fr
    → o ≡ Goes (record { top = fr; below = s.below; choices = left }) → ByChoice is (kept_of s) ls s.choices t
    → Shows o t
chosen is once s o t ls left x fr g l e h =
    let P : List ℕ → Type 0 = λ cs. ByChoice is (kept_of s) ls cs t in
    let Q : Option ℕ → Type 0 = λ r. ByTarget is (kept_of s) left r t in
    let w = subst Q g.chosen (subst P g.taken h) in
    landed is once s left o t x w.0 fr l w.1 e w.2

-- a function is not both a definition and a declaration
pub not_both : (is : List PlainInst) → HasOneDefinition is → (x g k e f : ℕ) (bs cs : List Binding) → IsDefinedAt is x g
    → IsDefinedAt is x k → IsDefined is g e bs → IsDeclared is k f cs → ⊥
not_both is once x g k e f bs cs a b d c =
    let same : g ≡ k = once g k x (result_of is g x a) (result_of is k x b) in
    let head = head_once is e f (suc g) (suc k) bs cs d.head c.head (ap suc same) (label_ends is e d.entry)
    (end_ends is f c.over) in
    let there : act_at is e ≡ Some FunctionEnd = ap (act_at is) head.place ∙ c.over in
    let w = act_same is e Label FunctionEnd d.entry there in
    cc

called : (is : List PlainInst) → HasOneDefinition is → (s : State) (x : ℕ) (tags : List ℕ) (o : Outcome) (t : Turn)
    → Enters is s x tags o → IsCalled is x (kept_of s) t → Shows o t
called is once s x tags o t (Enters.definition g e bs f d h) (IsCalled.definition k n cs f' d' q) =
    let same : k ≡ g = once k g x (result_of is k x f') (result_of is g x f) in
    let head = head_once is n e (suc k) (suc g) cs bs d'.head d.head (ap suc same) (label_ends is n d'.entry)
    (label_ends is e d.entry) in
    shown o _ t (at_call (kept_of s) n) h q
    (ap (λ p. kept_at p (suc s.top.position ∷ returns_to s.below) s.choices) head.place)
called is once s x tags o t (Enters.declaration g e bs f d h) (IsCalled.definition k n cs f' d' q) =
    absurd (not_both is once x k g n e cs bs f' f d' d)
called is once s x tags o t (Enters.definition g e bs f d h) (IsCalled.declaration k n cs f' d' q) =
    absurd (not_both is once x g k e n bs cs f f' d d')
called is once s x tags o t (Enters.declaration g e bs f d h) (IsCalled.declaration k n cs f' d' q) =
    shown o _ t (at (kept_of s) (suc s.top.position)) h q refl

back : (is : List PlainInst) (fr : Frame) (below : List Frame) (cs : List ℕ) (t : ℕ) (o : Outcome) (u : Turn)
    → o ≡ returned is below cs t
    → u ≡ by_caller (kept_at fr.position (returns_to below) cs) (returns_to below) → Shows o u
back is fr [] cs t o u e f = shown o _ u (trace_inner.Last _) e f refl
back is fr (c ∷ below) cs t o u e f =
    shown o _ u (trace_inner.Goes (kept_at (suc c.position) (returns_to below) cs)) e f refl

moves : (is : List PlainInst) → HasOneDefinition is → (s : State) (a : Act) (tags : List ℕ) (o : Outcome) (t : Turn)
    → Comes is a (kept_of s) t → Moves is s a tags o → Shows o t
moves is once s Function tags o t c h = absurd h
moves is once s Parameter tags o t c h = absurd h
moves is once s FunctionEnd tags o t c h = absurd h
moves is once s act.Misfit tags o t c h = absurd h
moves is once s Label tags o t c h = shown o _ t (at (kept_of s) (suc s.top.position)) h c refl
moves is once s (Phi ps) tags o t c (u, e, h) = shown o _ t (at (kept_of s) (suc s.top.position)) h c refl
moves is once s Other tags o t c h = shown o _ t (at (kept_of s) (suc s.top.position)) h c refl
moves is once s (Branch x) tags o t (n, label, c) (fr, l, h) = landed is once s s.choices o t x n fr l label h c
moves is once s (Choose v ls) tags o t c (x, left, fr, g, l, h) = chosen is once s o t ls left x fr g l h c
moves is once s (Call x xs) tags o t c h = called is once s x tags o t h c
moves is once s Return tags o t c (u, e, h) = back is s.top s.below s.choices u o t h c
moves is once s (ReturnValue v) tags o t c (u, e, h) = back is s.top s.below s.choices u o t h c
moves is once s act.Unreachable tags o t c h = shown o _ t (trace_inner.Last _) h c refl

none_left : (is : List PlainInst) (s : State) (ls : List ℕ) (o : Outcome) (t : Turn) → s.choices ≡ []
    → o ≡ Before machine.NoChoice → ByChoice is (kept_of s) ls s.choices t → Shows o t
none_left is s ls o t empty e c =
    let P : List ℕ → Type 0 = λ cs. ByChoice is (kept_of s) ls cs t in
    shown o _ t (trace_inner.Before _) e (subst P empty c) refl

no_target : (is : List PlainInst) (s : State) (k : ℕ) (ls left : List ℕ) (o : Outcome) (t : Turn) → s.choices ≡ k ∷ left
    → slice_get ls k ≡ None → o ≡ Before machine.BadChoice
    → ByChoice is (kept_of s) ls s.choices t → Shows o t
no_target is s k ls left o t some out e c =
    let P : List ℕ → Type 0 = λ cs. ByChoice is (kept_of s) ls cs t in
    let Q : Option ℕ → Type 0 = λ r. ByTarget is (kept_of s) left r t in
    shown o _ t (trace_inner.Before _) e (subst Q out (subst P some c)) refl

-- What comes of an instruction shows what the machine does.
pub simulated : (G : Table) (is : List PlainInst) → HasOneDefinition is → (s : State) (o : Outcome) (t : Turn)
    → ((i : PlainInst) → slice_get is s.top.position ≡ Some i → Comes is (act_of i) (kept_of s) t) → Does G is s o
    → Shows o t
simulated G is once s o t come (step i xs tags h v r others row m) = moves is once s (act_of i) tags o t (come i h) m
simulated G is once s o t come (no_choice i c ls h e empty q) =
    let A : Act → Type 0 = λ a. Comes is a (kept_of s) t in
    none_left is s ls o t empty q (subst A e (come i h))
simulated G is once s o t come (bad_choice i c k ls left h e some out q) =
    let A : Act → Type 0 = λ a. Comes is a (kept_of s) t in
    no_target is s k ls left o t some out q (subst A e (come i h))
