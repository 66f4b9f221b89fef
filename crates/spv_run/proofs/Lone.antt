-- All runs of the function that only returns.
use Rattle.std.proofs.Common.{◌≡◌, ◌≢◌, ◌≤◌, ◌<◌, ◌∙◌, ◌⊎◌, inl, inr, ℕ, zero, suc, List, [], ◌∷◌, Some, refl, sym, ap}
use Rattle.std.proofs.Common.{subst, arith, length}
use Rattle.std.specs.List.{AllByRecursion}
use Rattle.std.proofs.lemmas.Option.{none-some, same_Some}
use Rattle.spv_table.specs.Table.{Table}
use Rattle.spv_module.specs.Operand.{PlainInst, Result}
use Rattle.spv_module.specs.declared.opcode.TheConstants as opcode
use Rattle.spv_layout.specs.declared.class.Class.TheVariants.{Function, FunctionEnd}
use Rattle.spv_layout.specs.Rows.{rows}
use Rattle.spv_layout.specs.Place.{IsAt, IsDefinition}
use Rattle.spv_type_forms.specs.Example.{inst}
use Rattle.spv_run.specs.Act.{act_of}
use Rattle.spv_run.specs.Act as act
use Rattle.spv_run.specs.At.{act_at, result_at, type_at}
use Rattle.spv_run.specs.Definitions.{AreDefinitions}
use Rattle.spv_run.specs.Head.{Binding, Head, end, parameter, line}
use Rattle.spv_run.specs.State.{Ending, Finished, Limit, Stuck, State, Outcome, Goes, Last, Before, enter}
use Rattle.spv_run.specs.Machine.{Does, step, no_choice, bad_choice}
use Rattle.spv_run.specs.Run.{IsStart, Run, Reaches, limit, next, last, stuck}
use Rattle.spv_run.specs.Run as run
use Rattle.spv_run.specs.Promise.{IsDeclaredIn, Runs, NeverGetsStuck}
use Rattle.spv_run.specs.declared.parts.Step.{Step}
use Rattle.spv_run.specs.declared.parts.Trace.{Trace}
use Rattle.spv_run.specs.Entry.{IsEntryId, IsOfRun}
use Rattle.spv_run.specs.Trace.{ending_of}
use Rattle.spv_flow.specs.calls.Example.{entry}
use Rattle.spv_run.specs.Example.{lone_before, lone, entered, standing, step_at}
use Rattle.spv_run.proofs.Worked.{ReturnsVoid, alone_void, at_label, at_return, starts, short, whole, not_nothing}

-- one thing comes of the OpLabel, and one of the OpReturn
after_label : (G : Table) (o : Outcome) → Does G lone (standing 3) o → o ≡ Goes (standing 4)
unfolding act_of result_at
after_label G o (step i xs tags at v r others row m) =
    let same : inst opcode.LABEL (Result 4 ∷ []) ≡ i = same_Some (inst opcode.LABEL (Result 4 ∷ [])) i at in
    let moved = rw (← same) at m in
    moved
after_label G o (no_choice i c ls at q empty h) =
    let same : inst opcode.LABEL (Result 4 ∷ []) ≡ i = same_Some (inst opcode.LABEL (Result 4 ∷ [])) i at in
    let p = rw (← same) at q in cc
after_label G o (bad_choice i c k ls left at q some out h) =
    let same : inst opcode.LABEL (Result 4 ∷ []) ≡ i = same_Some (inst opcode.LABEL (Result 4 ∷ [])) i at in
    let p = rw (← same) at q in cc

after_return : (G : Table) (o : Outcome) → Does G lone (standing 4) o → o ≡ Last Finished
unfolding act_of type_at
after_return G o (step i xs tags at v r others row m) =
    let same : inst opcode.RETURN [] ≡ i = same_Some (inst opcode.RETURN []) i at in
    let moved = rw (← same) at m in
    moved.2
after_return G o (no_choice i c ls at q empty h) =
    let same : inst opcode.RETURN [] ≡ i = same_Some (inst opcode.RETURN []) i at in let p = rw (← same) at q in cc
after_return G o (bad_choice i c k ls left at q some out h) =
    let same : inst opcode.RETURN [] ≡ i = same_Some (inst opcode.RETURN []) i at in let p = rw (← same) at q in cc

-- its run begins at the OpLabel alone
head_ends : (e n : ℕ) (bs : List Binding) → Head lone e n bs → n ≡ 3 → (e ≡ 3) × (bs ≡ [])
unfolding act_at act_of
head_ends e _ _ end h = (h, refl)
head_ends e _ _ (parameter n x t bs a r ty rest) h =
    let w : act_at lone 3 ≡ Some act.Parameter = ap (act_at lone) (sym h) ∙ a in
    let v = same_Some act.Label act.Parameter w in
    cc
head_ends e _ _ (line n bs a r rest) h =
    let w : act_at lone 3 ≡ Some act.Other = ap (act_at lone) (sym h) ∙ a in
    let v = same_Some act.Label act.Other w in
    cc

abbrev begun : ℕ → List Binding → State
begun e bs = record { top = enter 2 e bs; below = []; choices = [] }

start_is : (s : State) → IsStart lone 2 [] s → s ≡ standing 3
start_is s b =
    let at = head_ends b.entry 3 b.parameters b.defined.head refl in
    b.start ∙ (ap (λ (e : ℕ). begun e b.parameters) at.0 ∙ ap (λ (bs : List Binding). begun 3 bs) at.1)

-- what is promised of each run
record Ran (steps : List Step) (e : Ending) : Type 0 where
  free : e ≢ Stuck
  shallow : AllByRecursion (λ (s : Step). s.depth ≡ 0) steps

ran_on : (G : Table) (n : ℕ) (s : State) (steps : List Step) (e : Ending) → Run G lone n s steps e → s ≡ standing 4
    → Ran steps e
ran_on G _ _ _ _ (limit s) h = record { free = λ x. cc; shallow = tt }
ran_on G _ _ _ _ (next n s after steps e d r) h =
    let w : Goes after ≡ Last Finished = after_return G (Goes after)
    (subst (λ (t : State). Does G lone t (Goes after)) h d) in
    let no : ⊥ = cc in absurd no
ran_on G _ _ _ _ (last n s e d) h =
    let w : Last e ≡ Last Finished = after_return G (Last e) (subst (λ (t : State). Does G lone t (Last e)) h d) in
    record { free = λ x. cc; shallow = (ap (λ (t : State). length t.below) h, tt) }
ran_on G _ _ _ _ (run.before n s e d) h =
    let w : Before e ≡ Last Finished = after_return G (Before e)
    (subst (λ (t : State). Does G lone t (Before e)) h d) in
    let no : ⊥ = cc in absurd no
ran_on G _ _ _ _ (stuck n s none) h =
    absurd (none (Last Finished) (subst (λ (t : State). Does G lone t (Last Finished)) (sym h)
    (at_return G [] alone_void)))

ran : (G : Table) (n : ℕ) (s : State) (steps : List Step) (e : Ending) → Run G lone n s steps e → s ≡ standing 3
    → Ran steps e
ran G _ _ _ _ (limit s) h = record { free = λ x. cc; shallow = tt }
ran G _ _ _ _ (next n s after steps e d r) h =
    let w : Goes after ≡ Goes (standing 4) = after_label G (Goes after)
    (subst (λ (t : State). Does G lone t (Goes after)) h d) in
    let there : after ≡ standing 4 = cc in
    let on = ran_on G n after steps e r there in
    record { free = on.free; shallow = (ap (λ (t : State). length t.below) h, on.shallow) }
ran G _ _ _ _ (last n s e d) h =
    let w : Last e ≡ Goes (standing 4) = after_label G (Last e) (subst (λ (t : State). Does G lone t (Last e)) h d) in
    let no : ⊥ = cc in absurd no
ran G _ _ _ _ (run.before n s e d) h =
    let w : Before e ≡ Goes (standing 4) = after_label G (Before e)
    (subst (λ (t : State). Does G lone t (Before e)) h d) in
    let no : ⊥ = cc in absurd no
ran G _ _ _ _ (stuck n s none) h =
    absurd (none (Goes (standing 4)) (subst (λ (t : State). Does G lone t (Goes (standing 4))) (sym h) (at_label G [])))

has_run : (G : Table) (n : ℕ) → Runs G lone n (standing 3)
has_run G zero = record { steps = []; ending = Limit; run = limit (standing 3); free = λ h. cc }
has_run G (suc zero) = record { steps = step_at 0 3 ∷ []; ending = Limit; run = short G; free = λ h. cc }
has_run G (suc (suc n)) = record {
  steps = step_at 0 3 ∷ step_at 0 4 ∷ [];
  ending = Finished;
  run = next (suc n) (standing 3) (standing 4) (step_at 0 4 ∷ []) Finished (at_label G [])
      (last n (standing 4) Finished (at_return G [] alone_void));
  free = λ h. cc;
}

-- nothing is bound
reached : (G : Table) (s after : State) → Reaches G lone s after → s ≡ standing 3
    → (after ≡ standing 3) ⊎ (after ≡ standing 4)
reached G s _ run.none h = inl h
reached G s _ (run.more mid after r d) h = elim (reached G s mid r h) [
  | inl a ↦
      let w : Goes after ≡ Goes (standing 4) = after_label G (Goes after)
      (subst (λ (t : State). Does G lone t (Goes after)) a d) in
      let there : after ≡ standing 4 = cc in
      inr there
  | inr b ↦
      let w : Goes after ≡ Last Finished = after_return G (Goes after)
      (subst (λ (t : State). Does G lone t (Goes after)) b d) in
      let no : ⊥ = cc in absurd no
]

abbrev AllDeclared : State → Type 0
AllDeclared s = IsDeclaredIn lone s.top × AllByRecursion (IsDeclaredIn lone) s.below

declared_at : (n : ℕ) → AllDeclared (standing n)
declared_at n = (λ x t h. absurd (none-some t h), tt)

declared : (s : State) → (s ≡ standing 3) ⊎ (s ≡ standing 4) → AllDeclared s
declared s h = elim h [
  | inl a ↦ subst AllDeclared (sym a) (declared_at 3)
  | inr b ↦
      subst AllDeclared (sym b) (declared_at 4)
]

-- the function is a definition, so that there is one at least
no_function : (rest : List PlainInst) (k : ℕ) → 2 < k → k ≤ 3 → ¬ (IsAt (lone_before rest) k (Function ∷ []))
unfolding rows
no_function rest zero l h a = absurd (omega (arith, l))
no_function rest (suc zero) l h a = absurd (omega (arith, l))
no_function rest (suc (suc zero)) l h a = absurd (omega (arith, l))
no_function rest (suc (suc (suc zero))) l h a = cc
no_function rest (suc (suc (suc (suc k)))) l h a = absurd (omega (arith, h))

no_end : (rest : List PlainInst) (k : ℕ) → 2 ≤ k → k < 3 → ¬ (IsAt (lone_before rest) k (FunctionEnd ∷ []))
unfolding rows
no_end rest zero l h a = absurd (omega (arith, l))
no_end rest (suc zero) l h a = absurd (omega (arith, l))
no_end rest (suc (suc zero)) l h a = cc
no_end rest (suc (suc (suc k))) l h a = absurd (omega (arith, h))

definition : (rest : List PlainInst) → IsDefinition (lone_before rest) 2
unfolding rows
definition rest = record {
  label = 3;
  there = refl;
  of = record {
    begun = record { within = omega arith; up_to = omega arith; there = refl; last = λ k l h. no_function rest k l h };
    not_ended = λ k l h. no_end rest k l h;
  };
}

some : (rest : List PlainInst) (functions : List ℕ) → AreDefinitions (lone_before rest) functions → 0 < length functions
some rest functions has = let c = has 2 (definition rest) in let l : c.0 < length functions = c.1 in omega (arith, l)

bounded : (m : ℕ) (steps : List Step) → 0 < m → AllByRecursion (λ (s : Step). s.depth ≡ 0) steps
    → AllByRecursion (λ (s : Step). s.depth < m) steps
bounded m [] l a = tt
bounded m (s ∷ steps) l a = (omega (arith, l, a.0), bounded m steps l a.1)

pub never_stuck : (G : Table) → NeverGetsStuck G lone 2 []
never_stuck G = record {
  starts = (standing 3, starts []);
  runs = λ s n b. subst (Runs G lone n) (sym (start_is s b)) (has_run G n);
  free = λ s n steps e b r. (ran G n s steps e r (start_is s b)).free;
  declared = λ s after b r. declared after (reached G s after r (start_is s b));
  bounded = λ functions has s n steps e b r. bounded (length functions) steps (some [] functions has)
      (ran G n s steps e r (start_is s b)).shallow;
}

-- Traces of it.

pub traced : (G : Table) (rest : List PlainInst) → ReturnsVoid rest → (t : Trace)
    → t.steps.items ≡ step_at 0 3 ∷ step_at 0 4 ∷ [] → ending_of t.ending ≡ Finished
    → IsOfRun G (lone_before rest) 9 (standing 3) t
traced G rest void t steps ending = record {
  run = rw (steps, ending) (whole G rest void);
  bounded = λ functions has. let l = some rest functions has in rw steps (omega (arith, l), (omega (arith, l), tt));
}

pub not_traced : (G : Table) (t : Trace) → t.steps.items ≡ [] → ¬ (IsOfRun G lone 9 (standing 3) t)
not_traced G t none r = not_nothing G (ending_of t.ending) (rw none at r.run)

pub entered_id : IsEntryId entered 3
entered_id = record { place = 6; inst = entry 3; there = refl; opcode = refl; named = refl }
