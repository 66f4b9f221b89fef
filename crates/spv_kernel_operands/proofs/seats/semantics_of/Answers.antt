use Rattle.spv_kernel_operands.specs.Seats.{lines}
use Rattle.spv_kernel_operands.proofs.seats.semantics_of.Goals as goal

pub returns : goal.returns
unfolding lines
returns c = c.semantics_in.ensures
