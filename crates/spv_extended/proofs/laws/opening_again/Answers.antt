use Rattle.spv_extended.proofs.Once.{opened_again}
use Rattle.spv_extended.proofs.laws.opening_again.Goals as goal

pub returns : goal.returns
returns c = opened_again
