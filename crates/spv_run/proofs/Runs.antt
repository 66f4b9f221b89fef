-- Runs of a checked module.
use Rattle.std.proofs.Common.{◌≡◌, ◌≢◌, ℕ, List, Result, Ok, Err, IfOk, refl, subst}
use Rattle.spv_table.specs.Table.{Table}
use Rattle.spv_module.specs.Operand.{PlainInst}
use Rattle.spv_extended.specs.declared.reach.Reach.{Reach}
use Rattle.spv_extended.specs.Reach.{profile_of}
use Rattle.spv_flow.proofs.lemmas.walks.Staged.{unasked}
use Rattle.spv_ids.specs.declared.ids.Ids.{Ids}
use Rattle.spv_ids.specs.Outcome.{AreIds}
use Rattle.spv_ids.specs.Outcome.{AreNumbered}
use Rattle.spv_run.specs.Entry.{IsTraced}
use Rattle.spv_run.specs.Sound.{KeepsRules}
use Rattle.spv_run.specs.Run.{IsStart, Run}
use Rattle.spv_run.specs.State.{State, Stuck}
use Rattle.spv_run.specs.Trace.{ending_of}
use Rattle.spv_run.specs.declared.parts.Ending.{Ending}
use Rattle.spv_run.specs.declared.parts.Ending.TheVariants.{Finished, Unreachable, Limit, NoChoice, BadChoice}
use Rattle.spv_run.proofs.Once.{one_free_run, start_once}
use Rattle.spv_run.proofs.Standing.{result_of}
use Rattle.spv_run.specs.declared.parts.Trace.{Trace}
use Rattle.spv_run.specs.declared.parts.TraceError.{TraceError}
use Rattle.spv_run.proofs.Sound.{checked}
use Rattle.spv_run.proofs.Theorem.{never_gets_stuck}
use Rattle.spv_run.proofs.Entries.{entry_defined, entry_function}
use Rattle.spv_layout.proofs.Seen.{seen_layout}
use Rattle.spv_layout.specs.Stage.{of_branches, of_values}
use Rattle.spv_check.specs.Checked.{IsKept}
use Rattle.spv_check.specs.Fork.{fork_of}
use Rattle.spv_check.specs.Program.{Program}
use Rattle.spv_run.specs.Tracing.{IsRunOf, IsTraceOf}

-- what a run rests on is kept
pub sound_run : (G : Table) (reach : Reach) (p : Program) → IsKept G reach p → KeepsRules G p.bound p.insts
sound_run G reach p k = record {
  fits = λ n i h. (k.laid_out.fits n i h).shape;
  layout = seen_layout (profile_of reach) p.insts k.laid_out.layout;
  ids = k.ids;
  capabilities = k.capabilities;
  types = k.rules;
  branches = unasked (fork_of reach) G p.insts of_branches k.branches;
  values = unasked (fork_of reach) G p.insts of_values k.values;
  calls = k.calls;
}

pub numbered : (G : Table) (bound : ℕ) (is : List PlainInst) (ids : Ids) → AreIds G bound is ids → AreNumbered is ids
numbered G bound is ids a = record { each = a.each }

-- a trace of a list on which no rule is broken is of a run from its start
pub of_run : (G : Table) (reach : Reach) (p : Program) (ids : Ids) (x : ℕ) (choices : List ℕ) (limit : ℕ) (t : Trace)
    → IsKept G reach p → AreNumbered p.insts ids → IsTraced p.insts ids x choices limit t
    → IsRunOf G p x choices limit t
of_run G reach p ids x choices limit t k num told =
    let sound = sound_run G reach p k in
    let d = entry_defined G p.bound p.insts x sound told.entry in
    let function = entry_function p.insts x d.0 told.entry d.1 in
    let start = (never_gets_stuck G p.insts (checked G p.bound p.insts sound) d.0 function choices).starts in
    record {
      entry = told.entry;
      function = d.0;
      defined = d.1;
      state = start.0;
      start = start.1;
      run = told.run G p.bound d.0 start.0 sound num d.1 start.1;
    }

pub each_run : (G : Table) (reach : Reach) (p : Program) (ids : Ids) (x : ℕ) (choices : List ℕ) (limit : ℕ)
    (r : Result Trace TraceError) → IsKept G reach p → AreNumbered p.insts ids
    → IfOk r (λ t. IsTraced p.insts ids x choices limit t) → IfOk r (λ t. IsRunOf G p x choices limit t)
each_run G reach p ids x choices limit (Ok t) k num told = of_run G reach p ids x choices limit t k num told
each_run G reach p ids x choices limit (Err e) k num told = tt

pub some_run : (G : Table) (reach : Reach) (p : Program) (x : ℕ) (choices : List ℕ) (limit : ℕ)
    (r : Result Trace TraceError) → IsKept G reach p
    → IfOk r (λ t. IsRunOf G p x choices limit t) → IfOk r (λ t. IsTraceOf p x choices limit t)
some_run G reach p x choices limit (Ok t) k told = record { table = G; reach = reach; kept = k; traced = told }
some_run G reach p x choices limit (Err e) k told = tt

-- One trace.

never_stuck : (e : Ending) → ending_of e ≢ Stuck
never_stuck Finished h = cc
never_stuck _ h = cc

same_ending : (e f : Ending) → ending_of e ≡ ending_of f → e ≡ f
same_ending Finished Finished h = refl
same_ending Unreachable Unreachable h = refl
same_ending Limit Limit h = refl
same_ending NoChoice NoChoice h = refl
same_ending BadChoice BadChoice h = refl
same_ending Finished Unreachable h = cc
same_ending Finished Limit h = cc
same_ending Finished NoChoice h = cc
same_ending Finished BadChoice h = cc
same_ending Unreachable Finished h = cc
same_ending Unreachable Limit h = cc
same_ending Unreachable NoChoice h = cc
same_ending Unreachable BadChoice h = cc
same_ending Limit Finished h = cc
same_ending Limit Unreachable h = cc
same_ending Limit NoChoice h = cc
same_ending Limit BadChoice h = cc
same_ending NoChoice Finished h = cc
same_ending NoChoice Unreachable h = cc
same_ending NoChoice Limit h = cc
same_ending NoChoice BadChoice h = cc
same_ending BadChoice Finished h = cc
same_ending BadChoice Unreachable h = cc
same_ending BadChoice Limit h = cc
same_ending BadChoice NoChoice h = cc

pub record SameTrace (t u : Trace) : Type 0 where
  pub steps : t.steps.items ≡ u.steps.items
  pub ending : t.ending ≡ u.ending

pub one_trace : (p : Program) (x : ℕ) (choices : List ℕ) (limit : ℕ) (t u : Trace) → IsTraceOf p x choices limit t
    → IsTraceOf p x choices limit u → SameTrace t u
one_trace p x choices limit t u a b =
    let r = a.traced in
    let q = b.traced in
    let ok = checked a.table p.bound p.insts (sound_run a.table a.reach p a.kept) in
    let function : q.function ≡ r.function = ok.once q.function r.function x (result_of p.insts q.function x q.defined)
    (result_of p.insts r.function x r.defined) in
    let start : IsStart p.insts r.function choices q.state = subst
    (λ g. IsStart p.insts g choices q.state) function q.start in
    let state : q.state ≡ r.state = start_once p.insts r.function choices q.state r.state start r.start in
    let run : Run b.table p.insts limit r.state u.steps.items (ending_of u.ending) = subst
    (λ (s : State). Run b.table p.insts limit s u.steps.items (ending_of u.ending)) state q.run.run in
    let same = one_free_run a.table b.table p.insts ok.fits ok.laying ok.layout ok.once limit limit r.state r.state
    t.steps.items u.steps.items (ending_of t.ending) (ending_of u.ending)
    r.run.run run refl refl (never_stuck t.ending) (never_stuck u.ending) in
    record { steps = same.steps_same; ending = same_ending t.ending u.ending same.ending_same }
