use Rattle.std.proofs.Math.Seq.{take-append_seam}
use Rattle.spv_annotate.proofs.drafted.put_line.Goals as goal

pub returns : goal.returns
returns c = rw c.copy_from_slice.ensures.after (take-append_seam c.args.line.now _)
