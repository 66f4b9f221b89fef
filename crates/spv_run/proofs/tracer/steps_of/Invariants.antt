use Rattle.std.proofs.Common.{◌≤◌, length, map}
use Rattle.spv_module.specs.Module.{plain_inst}
use Rattle.spv_run.proofs.Traces.{Going}
use Rattle.spv_run.proofs.tracer.steps_of.Given as goal

abbrev pub invariant-loop-done : goal.invariant-loop-done
invariant-loop-done l =
    (length l.walker.callers.items ≤ l._done) ×
    Going (record {
      insts = map plain_inst l.code.insts.now;
      ids = l.code.ids.now;
      entries = l.start.entries.now;
      entry = l.start.entry;
      choices = l.choices;
    }) l._done l.steps.items l.walker
