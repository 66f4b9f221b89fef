use Rattle.std.proofs.Common.{◌-◌, ◌≤◌, length}
use Rattle.spv_commands.proofs.Names.{IsOn}
use Rattle.spv_commands.proofs.name.write_label.Given as goal

abbrev pub invariant-loop-at : goal.invariant-loop-at
invariant-loop-at g l =
    (l.at ≤ length l.bytes) ×
    IsOn l.bytes l.at l.sound l.heard
    (g.W.Sink.contents l.initial.w) (g.W.Sink.contents l.w)
    (g.W.Sink.failures l.initial.w) (g.W.Sink.failures l.w)

abbrev pub decreases-loop-at : goal.decreases-loop-at
decreases-loop-at g l = length l.bytes - l.at
