use Rattle.std.proofs.Common.{◌≡◌, vec_len}
use Rattle.spv_inst.specs.inner.Pending.{frames_due}
use Rattle.spv_inst.proofs.pending.take_parameter.Given as goal

abbrev pub invariant-loop-frame : goal.invariant-loop-frame
invariant-loop-frame l = frames_due l.table l.fn.frames.items ≡ frames_due l.table l.frames.items

abbrev pub decreases-loop-frame : goal.decreases-loop-frame
decreases-loop-frame l = vec_len l.frames
