use Rattle.std.proofs.Common.{refl}
use Rattle.spv_annotate.specs.Notes.{opencl_lines}
use Rattle.spv_annotate.proofs.opencl.table.Goals as goal

pub returns : goal.returns
unfolding opencl_lines
returns c = refl
