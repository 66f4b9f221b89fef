use Rattle.std.proofs.Common.{◌≤◌, length}
use Rattle.spv_commands.proofs.TraceLines.{LinesSoFar}
use Rattle.spv_commands.proofs.trace_lines.put_lines.Given as goal

abbrev pub invariant-loop-left : goal.invariant-loop-left
invariant-loop-left l = LinesSoFar l.steps l.block l.left l.begin × (l.left ≤ length l.steps)

abbrev pub decreases-loop-left : goal.decreases-loop-left
decreases-loop-left l = l.left
