-- The run of the smallest kernel.
use Rattle.std.proofs.Common.{◌≡◌, ◌<◌, ℕ, List, [], ◌∷◌, inr, refl, arith, length}
use Rattle.spv_module.specs.declared.fault.Rule.TheVariants as rule
use Rattle.spv_ids.specs.Broken as id_rules
use Rattle.spv_flow.specs.calls.Calls.{IsEntryFunction}
use Rattle.spv_check.specs.Example.{kernel_program}
use Rattle.spv_run.specs.Act.{act_of}
use Rattle.spv_run.specs.At.{act_at, result_at, type_at}
use Rattle.spv_run.specs.Definitions.{AreDefinitions}
use Rattle.spv_run.specs.Head.{end, IsDefined}
use Rattle.spv_run.specs.State.{Finished, Frame, State, Goes, Last, enter}
use Rattle.spv_run.specs.Machine.{ReadsOthers, Does, step}
use Rattle.spv_run.specs.Run.{IsStart, Run, next, last}
use Rattle.spv_run.specs.Entry.{IsEntryId, IsOfRun}
use Rattle.spv_run.specs.Trace.{ending_of}
use Rattle.spv_run.specs.declared.parts.Trace.{Trace}
use Rattle.spv_run.specs.Example.{step_at}
use Rattle.spv_check.specs.Kernel.{grammar, entry_point, label, return_op, kernel}
use Rattle.spv_check.proofs.Kernel.{kept}
use Rattle.spv_check.proofs.KernelRules.{fits, is_layout, ids_kept, capabilities_kept, types_kept, flow_kept}
use Rattle.spv_check.proofs.KernelRules.{calls_kept, defined_3, defined_4, definition, not_local, used_below}
use Rattle.spv_extended.specs.declared.reach.Reach.TheVariants.{Profile}
use Rattle.spv_flow.specs.declared.branches.fork.Fork.TheVariants.{Free}
use Rattle.spv_run.specs.Sound.{KeepsRules}
use Rattle.spv_run.specs.Tracing.{IsRunOf, IsTraceOf}

abbrev pub running : ℕ → State
running n = record { top = enter 6 n []; below = []; choices = [] }

reads_nothing : (fr : Frame) → ReadsOthers grammar kernel fr
reads_nothing fr k x u v = absurd (not_local x (used_below fr.position k x _ u) v.local)

at_label : Does grammar kernel (running 7) (Goes (running 8))
unfolding act_of result_at
at_label = step label [] [] refl refl tt (reads_nothing (running 7).top) tt refl

at_return : Does grammar kernel (running 8) (Last Finished)
unfolding act_of type_at
at_return = step return_op [] [] refl refl tt (reads_nothing (running 8).top) refl (1, refl, refl)

runs : Run grammar kernel 9 (running 7) (step_at 0 7 ∷ step_at 0 8 ∷ []) Finished
runs = next 8 (running 7) (running 8) (step_at 0 8 ∷ []) Finished at_label (last 7 (running 8) Finished at_return)

begun : IsDefined kernel 6 7 []
unfolding act_at act_of
begun = record { function = refl; head = end; entry = refl }

pub starts : IsStart kernel 6 [] (running 7)
starts = record { entry = 7; parameters = []; defined = begun; start = refl }

pub entry_id : IsEntryId kernel 3
entry_id = record { place = 3; inst = entry_point; there = refl; opcode = refl; named = refl }

some : (functions : List ℕ) → AreDefinitions kernel functions → 0 < length functions
some functions has = let c = has 6 definition in let l : c.0 < length functions = c.1 in omega (arith, l)

pub traced : (t : Trace) → t.steps.items ≡ step_at 0 7 ∷ step_at 0 8 ∷ [] → ending_of t.ending ≡ Finished
    → IsOfRun grammar kernel 9 (running 7) t
traced t steps ending =
    record {
      run = rw (steps, ending) runs;
      bounded = λ functions has. let l = some functions has in
          rw steps (l, (l, tt));
    }

-- No rule is broken on it.

pub sound : KeepsRules grammar 5 kernel
sound = record {
  fits = fits;
  layout = is_layout;
  ids = λ r n s b. ids_kept r n b;
  capabilities = capabilities_kept;
  types = types_kept;
  branches = λ r n s b. flow_kept Free r n b;
  values = λ r n s b. flow_kept Free r n b;
  calls = λ r n s b. calls_kept r n b;
}

-- under a smaller bound the label's id is out of range
pub not_sound_below : ¬ (KeepsRules grammar 4 kernel)
not_sound_below s = s.ids rule.D1 7 refl (id_rules.result_out_of_range 7 4 defined_4 (inr (omega arith)))

pub entry_function : IsEntryFunction kernel 6
entry_function = record {
  place = 3;
  inst = entry_point;
  there = refl;
  opcode = refl;
  id = 3;
  named = refl;
  function = defined_3;
}

-- The run of its function.

pub run_of : (t : Trace) → t.steps.items ≡ step_at 0 7 ∷ step_at 0 8 ∷ [] → ending_of t.ending ≡ Finished
    → IsRunOf grammar kernel_program 3 [] 9 t
run_of t steps ending =
    record {
      entry = entry_id;
      function = 6;
      defined = defined_3;
      state = running 7;
      start = starts;
      run = traced t steps ending;
    }

pub trace_of : (t : Trace) → t.steps.items ≡ step_at 0 7 ∷ step_at 0 8 ∷ [] → ending_of t.ending ≡ Finished
    → IsTraceOf kernel_program 3 [] 9 t
trace_of t steps ending = record { table = grammar; reach = Profile; kept = kept; traced = run_of t steps ending }
