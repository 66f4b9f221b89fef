-- A checked module never gets stuck.
use Rattle.std.proofs.Common.{◌≢◌, ◌<◌, ℕ, zero, suc, List, [], ◌∷◌, refl, length}
use Rattle.std.specs.List.{AllByRecursion}
use Rattle.spv_table.specs.Table.{Table}
use Rattle.spv_module.specs.Operand.{PlainInst}
use Rattle.spv_run.specs.State.{Ending, Limit, Stuck, Frame, State, Outcome, Goes, Last, Before, enter}
use Rattle.spv_run.specs.Machine.{Does}
use Rattle.spv_run.specs.Run.{step_of, Run, limit, next, last, before, stuck}
use Rattle.spv_run.specs.declared.parts.Step.{Step}
use Rattle.spv_run.proofs.Checked.{IsChecked}
use Rattle.spv_run.specs.Definitions.{AreDefinitions}
use Rattle.spv_flow.specs.calls.Calls.{IsEntryFunction}
use Rattle.spv_run.specs.Promise.{IsDeclaredIn, Runs, NeverGetsStuck}
use Rattle.spv_run.proofs.Frames.{Stands}
use Rattle.spv_run.proofs.Stacks.{Stack, top_stands, preserved, started, reached}
use Rattle.spv_run.proofs.Progress.{progress}
use Rattle.spv_run.proofs.Depth.{shallow}
use Rattle.spv_run.proofs.Endings.{last_not_stuck, before_not_stuck}

one_more : (G : Table) (is : List PlainInst) (n : ℕ) (s : State) (o : Outcome) → Does G is s o
    → ((after : State) → Does G is s (Goes after) → Runs G is n after) → Runs G is (suc n) s
one_more G is n s (Goes after) d later =
    let rest = later after d in
    record {
      steps = step_of s ∷ rest.steps;
      ending = rest.ending;
      run = next n s after rest.steps rest.ending d rest.run;
      free = rest.free;
    }
one_more G is n s (Last f) d later =
    record { steps = step_of s ∷ []; ending = f; run = last n s f d; free = last_not_stuck G is s f d }
one_more G is n s (Before f) d later =
    record { steps = []; ending = f; run = before n s f d; free = before_not_stuck G is s f d }

runs : (G : Table) (is : List PlainInst) → IsChecked G is → (e n : ℕ) (s : State) → Stack is e s.top s.below
    → Runs G is n s
runs G is ok e zero s k = record { steps = []; ending = Limit; run = limit s; free = λ z. cc }
runs G is ok e (suc n) s k =
    let p = progress G is ok s (top_stands is e s.top s.below k) in
    one_more G is n s p.0 p.1 (λ after d. runs G is ok e n after (preserved G is ok e s after k d))

free : (G : Table) (is : List PlainInst) → IsChecked G is → (e n : ℕ) (s : State) (steps : List Step) (f : Ending)
    → Stack is e s.top s.below → Run G is n s steps f → f ≢ Stuck
free G is ok e _ _ _ _ k (limit s) = λ z. cc
free G is ok e _ _ _ _ k (next n s after steps f d r) =
    free G is ok e n after steps f (preserved G is ok e s after k d) r
free G is ok e _ _ _ _ k (last n s f d) = last_not_stuck G is s f d
free G is ok e _ _ _ _ k (before n s f d) = before_not_stuck G is s f d
free G is ok e _ _ _ _ k (stuck n s none) = let p = progress G is ok s (top_stands is e s.top s.below k) in
    absurd (none p.0 p.1)

declared_in : (is : List PlainInst) (fr : Frame) → Stands is fr → IsDeclaredIn is fr
declared_in is fr st x t h = (st.bound x t h).2

declared_all : (is : List PlainInst) (e : ℕ) (fr : Frame) (below : List Frame) → Stack is e fr below
    → AllByRecursion (IsDeclaredIn is) below
declared_all is e fr [] k = tt
declared_all is e fr (c ∷ below) k = (declared_in is c (top_stands is e c below k.2), declared_all is e c below k.2)

bounded : (G : Table) (is : List PlainInst) → IsChecked G is → (ds : List ℕ) → AreDefinitions is ds → (e : ℕ)
    → IsEntryFunction is e → (n : ℕ) (s : State) (steps : List Step) (f : Ending)
    → Stack is e s.top s.below → Run G is n s steps f → AllByRecursion (λ step. step.depth < length ds) steps
bounded G is ok ds has e entry _ _ _ _ k (next n s after steps f d r) = (
  shallow G is ok ds has e entry s.top s.below k,
  bounded G is ok ds has e entry n after steps f (preserved G is ok e s after k d) r,
)
bounded G is ok ds has e entry _ _ _ _ k (last n s f d) = (shallow G is ok ds has e entry s.top s.below k, tt)
bounded G is ok ds has e entry _ _ _ _ k _ = tt

pub never_gets_stuck : (G : Table) (is : List PlainInst) → IsChecked G is → (g : ℕ) → IsEntryFunction is g
    → (choices : List ℕ) → NeverGetsStuck G is g choices
never_gets_stuck G is ok g entry choices =
    let d = ok.entries g entry in
    let at = started G is ok g choices in
    record {
      starts = (
        record { top = enter g d.0 d.1; below = []; choices = choices },
        record { entry = d.0; parameters = d.1; defined = d.2; start = refl },
      );
      runs = λ s n start. runs G is ok g n s (at s start);
      free = λ s n steps e start r. free G is ok g n s steps e (at s start) r;
      declared = λ s after start r.
          let k = reached G is ok g s (at s start) after r in (
            declared_in is after.top (top_stands is g after.top after.below k),
            declared_all is g after.top after.below k,
          );
      bounded = λ ds has s n steps e start r. bounded G is ok ds has g entry n s steps e (at s start) r;
    }
