use Rattle.std.proofs.Common.{◌-◌, length}
use Rattle.spv_commands.proofs.TraceLines.{StepsSoFar}
use Rattle.spv_commands.proofs.trace_lines.write_steps.Given as goal

abbrev pub invariant-loop-at : goal.invariant-loop-at
invariant-loop-at g l =
    StepsSoFar (g.W.Sink.contents l.initial.w) (g.W.Sink.contents l.w) (g.W.Sink.failures l.initial.w)
    (g.W.Sink.failures l.w) l.steps l.at

abbrev pub decreases-loop-at : goal.decreases-loop-at
decreases-loop-at g l = length l.steps - l.at
