use Rattle.std.proofs.Common.{refl}
use Rattle.spv_layout.specs.Rows.{rows}
use Rattle.spv_layout.proofs.rows.opencl_rows.Goals as goal

pub returns-clause-rows : goal.returns-clause-rows
unfolding rows
returns-clause-rows c = refl

pub returns-clause-flagged : goal.returns-clause-flagged
returns-clause-flagged c = refl
