use Rattle.spv_kernel_operands.specs.Seats.{lines}
use Rattle.spv_kernel_operands.proofs.seats.scopes_of.Goals as goal

pub returns : goal.returns
unfolding lines
returns c = c.scopes_in.ensures
