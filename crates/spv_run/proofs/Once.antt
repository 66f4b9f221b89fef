-- At most one thing comes of a state, and so a state has at most one run of each length.
use Rattle.std.proofs.Common.{◌≡◌, ◌≢◌, ◌∙◌, ℕ, suc, List, [], ◌∷◌, Some, refl, sym, ap, subst, arith, slice_get}
use Rattle.std.proofs.lemmas.Option.{same_Some, none-some}
use Rattle.spv_table.specs.Table.{Table}
use Rattle.spv_module.specs.Operand.{PlainInst}
use Rattle.spv_run.specs.Act.{Act, Function, Parameter, FunctionEnd, Label, Phi, Branch, Choose, Call, Return}
use Rattle.spv_run.specs.Act.{ReturnValue, Other, act_of}
use Rattle.spv_run.specs.At.{act_at, result_at, type_at}
use Rattle.spv_run.specs.Head.{Binding, Head, end, parameter, line}
use Rattle.spv_run.specs.State.{Ending, Stuck, Frame, State, Outcome, Goes, Last, Before, advance, jump, enter, rebind}
use Rattle.spv_run.specs.State.{returned, with_top}
use Rattle.spv_run.specs.Machine.{Reads, ReadsAll, read_values, Lands, Enters, definition, declaration, Moves, Does}
use Rattle.spv_run.specs.Machine.{step, no_choice, bad_choice}
use Rattle.spv_run.specs.Run.{step_of, IsStart, Run, limit, next, last, before, stuck}
use Rattle.spv_run.specs.declared.parts.Step.{Step}
use Rattle.spv_run.proofs.LaidOut.{IsLaidOut}
use Rattle.spv_run.proofs.Fit.{AllFit, HasOneDefinition}
use Rattle.spv_run.proofs.Basics.{act_same}
use Rattle.spv_layout.specs.Layout.{IsLayout, classes}
use Rattle.spv_run.proofs.Frames.{one_block}
use Rattle.spv_run.proofs.Standing.{block_of, result_of}

-- one head
pub record SameHead (e f : ℕ) (bs cs : List Binding) : Type 0 where
  pub place : e ≡ f
  pub parameters : bs ≡ cs

-- what ends a head
pub record Ends (is : List PlainInst) (e : ℕ) : Type 0 where
  pub no_parameter : act_at is e ≢ Some Parameter
  pub no_line : act_at is e ≢ Some Other

pub label_ends : (is : List PlainInst) (e : ℕ) → act_at is e ≡ Some Label → Ends is e
label_ends is e h = record {
  no_parameter = λ g. let w = act_same is e Label Parameter h g in cc;
  no_line = λ g. let w = act_same is e Label Other h g in cc;
}

pub end_ends : (is : List PlainInst) (e : ℕ) → act_at is e ≡ Some FunctionEnd → Ends is e
end_ends is e h = record {
  no_parameter = λ g. let w = act_same is e FunctionEnd Parameter h g in cc;
  no_line = λ g. let w = act_same is e FunctionEnd Other h g in cc;
}

at_place : (is : List PlainInst) (m n : ℕ) (a : Act) → m ≡ n → act_at is n ≡ Some a → act_at is m ≡ Some a
at_place is m n a e h = ap (act_at is) e ∙ h

abbrev record_of : ℕ → ℕ → Binding
record_of i j = record { id = i; tag = j }

pub head_once : (is : List PlainInst) (e f n m : ℕ) (bs cs : List Binding) → Head is e n bs → Head is f m cs → n ≡ m
    → Ends is e → Ends is f → SameHead e f bs cs
head_once is e f _ _ _ _ end end q x y = record { place = q; parameters = refl }
head_once is e f _ _ _ _ end (parameter m z t cs h r u rest) q x y =
    absurd (x.no_parameter (at_place is e m Parameter q h))
head_once is e f _ _ _ _ end (line m cs h r rest) q x y = absurd (x.no_line (at_place is e m Other q h))
head_once is e f _ _ _ _ (parameter n z t bs h r u rest) end q x y =
    absurd (y.no_parameter (at_place is f n Parameter (sym q) h))
head_once is e f _ _ _ _ (line n bs h r rest) end q x y = absurd (y.no_line (at_place is f n Other (sym q) h))
head_once is e f _ _ _ _ (parameter n z t bs h r u rest) (line m cs k p more) q x y =
    absurd (let w = act_same is n Parameter Other h (at_place is n m Other q k) in cc)
head_once is e f _ _ _ _ (line n bs h r rest) (parameter m z t cs k p u more) q x y =
    absurd (let w = act_same is n Other Parameter h (at_place is n m Parameter q k) in cc)
head_once is e f _ _ _ _ (line n bs h r rest) (line m cs k p more) q x y =
    head_once is e f (suc n) (suc m) bs cs rest more (ap suc q) x y
head_once is e f _ _ _ _ (parameter n z t bs h r u rest) (parameter m w s cs k p v more) q x y =
    let same = head_once is e f (suc n) (suc m) bs cs rest more (ap suc q) x y in
    let id : z ≡ w = same_Some z w (sym r ∙ (ap (result_at is) q ∙ p)) in
    let tag : t ≡ s = same_Some t s (sym u ∙ (ap (type_at is) q ∙ v)) in
    let b : record_of z t ≡ record_of w s = ap (λ i. record_of i t) id ∙ ap (λ i. record_of w i) tag in
    record { place = same.place; parameters = ap (λ c. c ∷ bs) b ∙ ap (λ ds. record_of w s ∷ ds) same.parameters }

reads_once : (is : List PlainInst) (fr : Frame) (x t s : ℕ) → Reads is fr x t → Reads is fr x s → t ≡ s
reads_once is fr x t s (Reads.bound l h) (Reads.bound k g) = same_Some t s (sym h ∙ g)
reads_once is fr x t s (Reads.bound l h) (Reads.declared n g) = absurd (n l)
reads_once is fr x t s (Reads.declared n h) (Reads.bound l g) = absurd (n l)
reads_once is fr x t s (Reads.declared n h) (Reads.declared k g) = same_Some t s (sym h ∙ g)

all_once : (is : List PlainInst) (fr : Frame) (xs ts ss : List ℕ) → ReadsAll is fr xs ts → ReadsAll is fr xs ss
    → ts ≡ ss
all_once is fr [] [] [] p q = refl
all_once is fr [] [] (s ∷ ss) p q = absurd q
all_once is fr [] (t ∷ ts) ss p q = absurd p
all_once is fr (x ∷ xs) [] ss p q = absurd p
all_once is fr (x ∷ xs) (t ∷ ts) [] p q = absurd q
all_once is fr (x ∷ xs) (t ∷ ts) (s ∷ ss) (a, p) (b, q) =
    ap (λ u. u ∷ ts) (reads_once is fr x t s a b) ∙ ap (λ us. s ∷ us) (all_once is fr xs ts ss p q)

lands_once : (G : Table) (is : List PlainInst) → AllFit G is → IsLayout (classes is) → IsLaidOut is
    → HasOneDefinition is → (fr : Frame) (x : ℕ) (a b : Frame) → Lands is fr x a → Lands is fr x b → a ≡ b
lands_once G is fits laying laid once fr x a b p q =
    let block = one_block is laid p.block q.block fr.position (block_of G is fits laying p.block fr.position p.leaves)
    (block_of G is fits laying q.block fr.position q.leaves) in
    let place = once p.place q.place x (result_of is p.place x p.label.defined)
    (result_of is q.place x q.label.defined) in
    p.comes ∙ (ap (λ k. jump fr k p.place) block ∙ (ap (λ k. jump fr q.block k) place ∙ sym q.comes))

enters_once : (is : List PlainInst) → HasOneDefinition is → (s : State) (x : ℕ) (tags : List ℕ) (o p : Outcome)
    → Enters is s x tags o → Enters is s x tags p → o ≡ p
enters_once is once s x tags o p (definition g e bs f d h) (definition k c cs l m i) =
    let same : g ≡ k = once g k x (result_of is g x f) (result_of is k x l) in
    let head = head_once is e c (suc g) (suc k) bs cs d.head m.head (ap suc same) (label_ends is e d.entry)
    (label_ends is c m.entry) in
    let made : ℕ → ℕ → List Binding
    → Outcome = λ a b ds. Goes (record
    { top = enter a b (rebind ds tags); below = s.top ∷ s.below; choices = s.choices }) in
    h ∙ (ap (λ a. made a e bs) same ∙ (ap (λ b. made k b bs) head.place
    ∙ (ap (λ ds. made k c ds) head.parameters ∙ sym i)))
enters_once is once s x tags o p (definition g e bs f d h) (declaration k c cs l m i) =
    let same : g ≡ k = once g k x (result_of is g x f) (result_of is k x l) in
    let head = head_once is e c (suc g) (suc k) bs cs d.head m.head (ap suc same) (label_ends is e d.entry)
    (end_ends is c m.over) in
    absurd (let w = act_same is e Label FunctionEnd d.entry (at_place is e c FunctionEnd head.place m.over) in cc)
enters_once is once s x tags o p (declaration g e bs f d h) (definition k c cs l m i) =
    let same : g ≡ k = once g k x (result_of is g x f) (result_of is k x l) in
    let head = head_once is e c (suc g) (suc k) bs cs d.head m.head (ap suc same) (end_ends is e d.over)
    (label_ends is c m.entry) in
    absurd (let w = act_same is e FunctionEnd Label d.over (at_place is e c Label head.place m.entry) in cc)
enters_once is once s x tags o p (declaration g e bs f d h) (declaration k c cs l m i) = h ∙ sym i

pub first_same : (x y : ℕ) (xs ys : List ℕ) → x ∷ xs ≡ y ∷ ys → x ≡ y
first_same x y xs ys e = cc

pub rest_same : (x y : ℕ) (xs ys : List ℕ) → x ∷ xs ≡ y ∷ ys → xs ≡ ys
rest_same x y xs ys e = cc

moves_once : (G : Table) (is : List PlainInst) → AllFit G is → IsLayout (classes is) → IsLaidOut is
    → HasOneDefinition is → (s : State) (a : Act) (tags : List ℕ) (o p : Outcome) → Moves is s a tags o
    → Moves is s a tags p → o ≡ p
moves_once G is fits laying laid once s Function tags o p m n = absurd m
moves_once G is fits laying laid once s Parameter tags o p m n = absurd m
moves_once G is fits laying laid once s FunctionEnd tags o p m n = absurd m
moves_once G is fits laying laid once s Act.Misfit tags o p m n = absurd m
moves_once G is fits laying laid once s Label tags o p m n = m ∙ sym n
moves_once G is fits laying laid once s (Phi ps) tags o p (t, e, m) (u, f, n) =
    m ∙ (ap (λ k. Goes (with_top s (advance is s.top (Some k)))) (first_same t u [] [] (sym e ∙ f)) ∙ sym n)
moves_once G is fits laying laid once s (Branch x) tags o p (fr, l, m) (gr, k, n) =
    m ∙ (ap (λ f. Goes (with_top s f)) (lands_once G is fits laying laid once s.top x fr gr l k) ∙ sym n)
moves_once G is fits laying laid once s (Choose c ls) tags o p (x, left, fr, g, l, m) (y, rest, gr, h, k, n) =
    let taken = sym g.taken ∙ h.taken in
    let choice = first_same g.choice h.choice left rest taken in
    let lefts = rest_same g.choice h.choice left rest taken in
    let target : x ≡ y = same_Some x y (sym g.chosen ∙ (ap (slice_get ls) choice ∙ h.chosen)) in
    let P : ℕ → Type 0 = λ z. Lands is s.top z fr in
    let made : Frame → List ℕ → Outcome = λ f cs. Goes (record { top = f; below = s.below; choices = cs }) in
    m ∙ (ap (λ f. made f left) (lands_once G is fits laying laid once s.top y fr gr (subst P target l) k)
    ∙ (ap (λ cs. made gr cs) lefts ∙ sym n))
moves_once G is fits laying laid once s (Call x xs) tags o p m n = enters_once is once s x tags o p m n
moves_once G is fits laying laid once s Return tags o p (t, e, m) (u, f, n) =
    m ∙ (ap (returned is s.below s.choices) (same_Some t u (sym e ∙ f)) ∙ sym n)
moves_once G is fits laying laid once s (ReturnValue x) tags o p (t, e, m) (u, f, n) =
    m ∙ (ap (returned is s.below s.choices) (first_same t u [] [] (sym e ∙ f)) ∙ sym n)
moves_once G is fits laying laid once s Act.Unreachable tags o p m n = m ∙ sym n
moves_once G is fits laying laid once s Other tags o p m n = m ∙ sym n

moves_choose : (is : List PlainInst) (s : State) (a : Act) (tags : List ℕ) (o : Outcome) (c : ℕ) (ls : List ℕ)
    → a ≡ Choose c ls → Moves is s a tags o
    → (k : ℕ) × (left : List ℕ) × (x : ℕ) × (s.choices ≡ k ∷ left) × (slice_get ls k ≡ Some x)
moves_choose is s a tags o c ls e m =
    let P : Act → Type 0 = λ b. Moves is s b tags o in
    by_choice (subst P e m) where
      by_choice : Moves is s (Choose c ls) tags o
          → (k : ℕ) × (left : List ℕ) × (x : ℕ) × (s.choices ≡ k ∷ left) × (slice_get ls k ≡ Some x)
      by_choice (x, left, fr, g, l, n) = (g.choice, left, x, g.taken, g.chosen)

same_lists : (c d : ℕ) (ls ms : List ℕ) → Choose c ls ≡ Choose d ms → ls ≡ ms
same_lists c d ls ms e = cc

-- at most one thing comes of a state, whatever the table
pub one_outcome : (G H : Table) (is : List PlainInst) → AllFit G is → IsLayout (classes is) → IsLaidOut is
    → HasOneDefinition is → (s : State) (o p : Outcome) → Does G is s o → Does H is s p → o ≡ p
one_outcome G H is fits laying laid once s o p (step i xs ts at v r others row m)
    (step j ys us at' v' r' others' row' m') =
    let inst : i ≡ j = same_Some i j (sym at ∙ at') in
    let P : PlainInst → Type 0 = λ k. read_values is s.top k (act_of k) ≡ Some ys in
    let values : xs ≡ ys = same_Some xs ys (sym v ∙ subst P (sym inst) v') in
    let Q : List ℕ → Type 0 = λ zs. ReadsAll is s.top zs us in
    let tags : ts ≡ us = all_once is s.top xs ts us r (subst Q (sym values) r') in
    let A : Act → Type 0 = λ a. Moves is s a us p in
    let B : List ℕ → Type 0 = λ zs. Moves is s (act_of i) zs p in
    moves_once G is fits laying laid once s (act_of i) ts o p m (subst B (sym tags) (subst A (sym (ap act_of inst)) m'))
one_outcome G H is fits laying laid once s o p (step i xs ts at v r others row m) (no_choice j c ls at' e empty h) =
    let inst : i ≡ j = same_Some i j (sym at ∙ at') in
    let w = moves_choose is s (act_of i) ts o c ls (ap act_of inst ∙ e) m in
    absurd (let z : w.0 ∷ w.1 ≡ [] = sym w.3 ∙ empty in cc)
one_outcome G H is fits laying laid once s o p (step i xs ts at v r others row m)
    (bad_choice j c k ls left at' e some out h) =
    let inst : i ≡ j = same_Some i j (sym at ∙ at') in
    let w = moves_choose is s (act_of i) ts o c ls (ap act_of inst ∙ e) m in
    let same : w.0 ≡ k = first_same w.0 k w.1 left (sym w.3 ∙ some) in
    absurd (none-some w.2 (sym out ∙ (ap (slice_get ls) (sym same) ∙ w.4)))
one_outcome G H is fits laying laid once s o p (no_choice j c ls at' e empty h) (step i xs ts at v r others row m) =
    let inst : i ≡ j = same_Some i j (sym at ∙ at') in
    let w = moves_choose is s (act_of i) ts p c ls (ap act_of inst ∙ e) m in
    absurd (let z : w.0 ∷ w.1 ≡ [] = sym w.3 ∙ empty in cc)
one_outcome G H is fits laying laid once s o p (no_choice j c ls at' e empty h) (no_choice i d ms at f none g) =
    h ∙ sym g
one_outcome G H is fits laying laid once s o p (no_choice j c ls at' e empty h)
    (bad_choice i d k ms left at f some out g) = absurd (let z : k ∷ left ≡ [] = sym some ∙ empty in cc)
one_outcome G H is fits laying laid once s o p (bad_choice j c k ls left at' e some out h)
    (step i xs ts at v r others row m) =
    let inst : i ≡ j = same_Some i j (sym at ∙ at') in
    let w = moves_choose is s (act_of i) ts p c ls (ap act_of inst ∙ e) m in
    let same : w.0 ≡ k = first_same w.0 k w.1 left (sym w.3 ∙ some) in
    absurd (none-some w.2 (sym out ∙ (ap (slice_get ls) (sym same) ∙ w.4)))
one_outcome G H is fits laying laid once s o p (bad_choice j c k ls left at' e some out h)
    (no_choice i d ms at f empty g) = absurd (let z : k ∷ left ≡ [] = sym some ∙ empty in cc)
one_outcome G H is fits laying laid once s o p (bad_choice j c k ls left at' e some out h)
    (bad_choice i d l ms rest at f more gone g) = h ∙ sym g

-- runs of one length from a state have the same steps and end
pub record SameRun (steps others : List Step) (e f : Ending) : Type 0 where
  pub steps_same : steps ≡ others
  pub ending_same : e ≡ f

goes_goes : (s t : State) → Goes s ≡ Goes t → t ≡ s
goes_goes s t e = cc

last_last : (e f : Ending) → Last e ≡ Last f → e ≡ f
last_last e f h = cc

before_before : (e f : Ending) → Before e ≡ Before f → e ≡ f
before_before e f h = cc

pub one_run : (G : Table) (is : List PlainInst) → AllFit G is → IsLayout (classes is) → IsLaidOut is
    → HasOneDefinition is → (n m : ℕ) (s t : State) (zs bs : List Step) (e f : Ending)
    → Run G is n s zs e → Run G is m t bs f → n ≡ m → s ≡ t → SameRun zs bs e f
one_run G is fits laying laid once _ _ _ _ _ _ _ _ (limit s) (limit t) h g =
    record { steps_same = refl; ending_same = refl }
one_run G is fits laying laid once _ _ _ _ _ _ _ _ (limit s) (next m t u bs f d r) h g = absurd (omega (arith, h))
one_run G is fits laying laid once _ _ _ _ _ _ _ _ (limit s) (last m t f d) h g = absurd (omega (arith, h))
one_run G is fits laying laid once _ _ _ _ _ _ _ _ (limit s) (before m t f d) h g = absurd (omega (arith, h))
one_run G is fits laying laid once _ _ _ _ _ _ _ _ (limit s) (stuck m t d) h g = absurd (omega (arith, h))
one_run G is fits laying laid once _ _ _ _ _ _ _ _ (next n s u zs e d r) (limit t) h g = absurd (omega (arith, h))
one_run G is fits laying laid once _ _ _ _ _ _ _ _ (last n s e d) (limit t) h g = absurd (omega (arith, h))
one_run G is fits laying laid once _ _ _ _ _ _ _ _ (before n s e d) (limit t) h g = absurd (omega (arith, h))
one_run G is fits laying laid once _ _ _ _ _ _ _ _ (stuck n s d) (limit t) h g = absurd (omega (arith, h))
one_run G is fits laying laid once _ _ _ _ _ _ _ _ (next n s u zs e d r) (next m t v bs f d' r') h g =
    let P : State → Type 0 = λ z. Does G is z (Goes v) in
    let same = goes_goes v u (one_outcome G G is fits laying laid once s (Goes v) (Goes u) (subst P (sym g) d') d) in
    let more = one_run G is fits laying laid once n m u v zs bs e f r r' (omega (arith, h)) same in
    record {
      steps_same = ap (λ z. step_of z ∷ zs) g ∙ ap (λ z. step_of t ∷ z) more.steps_same;
      ending_same = more.ending_same;
    }
one_run G is fits laying laid once _ _ _ _ _ _ _ _ (next n s u zs e d r) (last m t f d') h g =
    let P : State → Type 0 = λ z. Does G is z (Last f) in
    absurd (let w = one_outcome G G is fits laying laid once s (Goes u) (Last f) d (subst P (sym g) d') in cc)
one_run G is fits laying laid once _ _ _ _ _ _ _ _ (next n s u zs e d r) (before m t f d') h g =
    let P : State → Type 0 = λ z. Does G is z (Before f) in
    absurd (let w = one_outcome G G is fits laying laid once s (Goes u) (Before f) d (subst P (sym g) d') in cc)
one_run G is fits laying laid once _ _ _ _ _ _ _ _ (next n s u zs e d r) (stuck m t d') h g =
    let P : State → Type 0 = λ z. Does G is z (Goes u) in absurd (d' (Goes u) (subst P g d))
one_run G is fits laying laid once _ _ _ _ _ _ _ _ (last n s e d) (next m t v bs f d' r') h g =
    let P : State → Type 0 = λ z. Does G is z (Goes v) in
    absurd (let w = one_outcome G G is fits laying laid once s (Last e) (Goes v) d (subst P (sym g) d') in cc)
one_run G is fits laying laid once _ _ _ _ _ _ _ _ (last n s e d) (last m t f d') h g =
    let P : State → Type 0 = λ z. Does G is z (Last f) in
    record {
      steps_same = ap (λ z. step_of z ∷ []) g;
      ending_same = last_last e f (one_outcome G G is fits laying laid once s (Last e) (Last f) d
          (subst P (sym g) d'));
    }
one_run G is fits laying laid once _ _ _ _ _ _ _ _ (last n s e d) (before m t f d') h g =
    let P : State → Type 0 = λ z. Does G is z (Before f) in
    absurd (let w = one_outcome G G is fits laying laid once s (Last e) (Before f) d (subst P (sym g) d') in cc)
one_run G is fits laying laid once _ _ _ _ _ _ _ _ (last n s e d) (stuck m t d') h g =
    let P : State → Type 0 = λ z. Does G is z (Last e) in absurd (d' (Last e) (subst P g d))
one_run G is fits laying laid once _ _ _ _ _ _ _ _ (before n s e d) (next m t v bs f d' r') h g =
    let P : State → Type 0 = λ z. Does G is z (Goes v) in
    absurd (let w = one_outcome G G is fits laying laid once s (Before e) (Goes v) d (subst P (sym g) d') in cc)
one_run G is fits laying laid once _ _ _ _ _ _ _ _ (before n s e d) (last m t f d') h g =
    let P : State → Type 0 = λ z. Does G is z (Last f) in
    absurd (let w = one_outcome G G is fits laying laid once s (Before e) (Last f) d (subst P (sym g) d') in cc)
one_run G is fits laying laid once _ _ _ _ _ _ _ _ (before n s e d) (before m t f d') h g =
    let P : State → Type 0 = λ z. Does G is z (Before f) in
    record {
      steps_same = refl;
      ending_same = before_before e f
          (one_outcome G G is fits laying laid once s (Before e) (Before f) d (subst P (sym g) d'));
    }
one_run G is fits laying laid once _ _ _ _ _ _ _ _ (before n s e d) (stuck m t d') h g =
    let P : State → Type 0 = λ z. Does G is z (Before e) in absurd (d' (Before e) (subst P g d))
one_run G is fits laying laid once _ _ _ _ _ _ _ _ (stuck n s d) (next m t v bs f d' r') h g =
    let P : State → Type 0 = λ z. Does G is z (Goes v) in absurd (d (Goes v) (subst P (sym g) d'))
one_run G is fits laying laid once _ _ _ _ _ _ _ _ (stuck n s d) (last m t f d') h g =
    let P : State → Type 0 = λ z. Does G is z (Last f) in absurd (d (Last f) (subst P (sym g) d'))
one_run G is fits laying laid once _ _ _ _ _ _ _ _ (stuck n s d) (before m t f d') h g =
    let P : State → Type 0 = λ z. Does G is z (Before f) in absurd (d (Before f) (subst P (sym g) d'))
one_run G is fits laying laid once _ _ _ _ _ _ _ _ (stuck n s d) (stuck m t d') h g =
    record { steps_same = refl; ending_same = refl }

-- the same under two tables, of runs that do not get stuck
pub one_free_run : (G H : Table) (is : List PlainInst) → AllFit G is → IsLayout (classes is) → IsLaidOut is
    → HasOneDefinition is → (n m : ℕ) (s t : State) (zs bs : List Step) (e f : Ending)
    → Run G is n s zs e → Run H is m t bs f → n ≡ m → s ≡ t → e ≢ Stuck → f ≢ Stuck → SameRun zs bs e f
one_free_run G H is fits laying laid once _ _ _ _ _ _ _ _ (limit s) (limit t) h g x y =
    record { steps_same = refl; ending_same = refl }
one_free_run G H is fits laying laid once _ _ _ _ _ _ _ _ (limit s) (next m t u bs f d r) h g x y =
    absurd (omega (arith, h))
one_free_run G H is fits laying laid once _ _ _ _ _ _ _ _ (limit s) (last m t f d) h g x y = absurd (omega (arith, h))
one_free_run G H is fits laying laid once _ _ _ _ _ _ _ _ (limit s) (before m t f d) h g x y = absurd (omega (arith, h))
one_free_run G H is fits laying laid once _ _ _ _ _ _ _ _ (limit s) (stuck m t d) h g x y = absurd (omega (arith, h))
one_free_run G H is fits laying laid once _ _ _ _ _ _ _ _ (next n s u zs e d r) (limit t) h g x y =
    absurd (omega (arith, h))
one_free_run G H is fits laying laid once _ _ _ _ _ _ _ _ (last n s e d) (limit t) h g x y = absurd (omega (arith, h))
one_free_run G H is fits laying laid once _ _ _ _ _ _ _ _ (before n s e d) (limit t) h g x y = absurd (omega (arith, h))
one_free_run G H is fits laying laid once _ _ _ _ _ _ _ _ (stuck n s d) (limit t) h g x y = absurd (omega (arith, h))
one_free_run G H is fits laying laid once _ _ _ _ _ _ _ _ (next n s u zs e d r) (next m t v bs f d' r') h g x y =
    let P : State → Type 0 = λ z. Does H is z (Goes v) in
    let same = goes_goes v u (sym (one_outcome G H is fits laying laid once s (Goes u) (Goes v) d (subst P (sym g) d')))
    in
    let more = one_free_run G H is fits laying laid once n m u v zs bs e f r r' (omega (arith, h)) same x y in
    record {
      steps_same = ap (λ z. step_of z ∷ zs) g ∙ ap (λ z. step_of t ∷ z) more.steps_same;
      ending_same = more.ending_same;
    }
one_free_run G H is fits laying laid once _ _ _ _ _ _ _ _ (next n s u zs e d r) (last m t f d') h g x y =
    let P : State → Type 0 = λ z. Does H is z (Last f) in
    absurd (let w = one_outcome G H is fits laying laid once s (Goes u) (Last f) d (subst P (sym g) d') in cc)
one_free_run G H is fits laying laid once _ _ _ _ _ _ _ _ (next n s u zs e d r) (before m t f d') h g x y =
    let P : State → Type 0 = λ z. Does H is z (Before f) in
    absurd (let w = one_outcome G H is fits laying laid once s (Goes u) (Before f) d (subst P (sym g) d') in cc)
one_free_run G H is fits laying laid once _ _ _ _ _ _ _ _ (next n s u zs e d r) (stuck m t d') h g x y = absurd (y refl)
one_free_run G H is fits laying laid once _ _ _ _ _ _ _ _ (last n s e d) (next m t v bs f d' r') h g x y =
    let P : State → Type 0 = λ z. Does H is z (Goes v) in
    absurd (let w = one_outcome G H is fits laying laid once s (Last e) (Goes v) d (subst P (sym g) d') in cc)
one_free_run G H is fits laying laid once _ _ _ _ _ _ _ _ (last n s e d) (last m t f d') h g x y =
    let P : State → Type 0 = λ z. Does H is z (Last f) in
    record {
      steps_same = ap (λ z. step_of z ∷ []) g;
      ending_same = last_last e f (one_outcome G H is fits laying laid once s (Last e) (Last f) d
          (subst P (sym g) d'));
    }
one_free_run G H is fits laying laid once _ _ _ _ _ _ _ _ (last n s e d) (before m t f d') h g x y =
    let P : State → Type 0 = λ z. Does H is z (Before f) in
    absurd (let w = one_outcome G H is fits laying laid once s (Last e) (Before f) d (subst P (sym g) d') in cc)
one_free_run G H is fits laying laid once _ _ _ _ _ _ _ _ (last n s e d) (stuck m t d') h g x y = absurd (y refl)
one_free_run G H is fits laying laid once _ _ _ _ _ _ _ _ (before n s e d) (next m t v bs f d' r') h g x y =
    let P : State → Type 0 = λ z. Does H is z (Goes v) in
    absurd (let w = one_outcome G H is fits laying laid once s (Before e) (Goes v) d (subst P (sym g) d') in cc)
one_free_run G H is fits laying laid once _ _ _ _ _ _ _ _ (before n s e d) (last m t f d') h g x y =
    let P : State → Type 0 = λ z. Does H is z (Last f) in
    absurd (let w = one_outcome G H is fits laying laid once s (Before e) (Last f) d (subst P (sym g) d') in cc)
one_free_run G H is fits laying laid once _ _ _ _ _ _ _ _ (before n s e d) (before m t f d') h g x y =
    let P : State → Type 0 = λ z. Does H is z (Before f) in
    record {
      steps_same = refl;
      ending_same = before_before e f
          (one_outcome G H is fits laying laid once s (Before e) (Before f) d (subst P (sym g) d'));
    }
one_free_run G H is fits laying laid once _ _ _ _ _ _ _ _ (before n s e d) (stuck m t d') h g x y = absurd (y refl)
one_free_run G H is fits laying laid once _ _ _ _ _ _ _ _ (stuck n s d) (next m t v bs f d' r') h g x y =
    absurd (x refl)
one_free_run G H is fits laying laid once _ _ _ _ _ _ _ _ (stuck n s d) (last m t f d') h g x y = absurd (x refl)
one_free_run G H is fits laying laid once _ _ _ _ _ _ _ _ (stuck n s d) (before m t f d') h g x y = absurd (x refl)
one_free_run G H is fits laying laid once _ _ _ _ _ _ _ _ (stuck n s d) (stuck m t d') h g x y = absurd (x refl)

pub start_once : (is : List PlainInst) (g : ℕ) (choices : List ℕ) (s t : State) → IsStart is g choices s
    → IsStart is g choices t → s ≡ t
start_once is g choices s t a b =
    let head = head_once is a.entry b.entry (suc g) (suc g) a.parameters b.parameters a.defined.head b.defined.head refl
    (label_ends is a.entry a.defined.entry) (label_ends is b.entry b.defined.entry) in
    let made : ℕ → List Binding → State = λ e bs. record { top = enter g e bs; below = []; choices = choices } in
    a.start ∙ (ap (λ e. made e a.parameters) head.place ∙ (ap (λ bs. made b.entry bs) head.parameters ∙ sym b.start))
