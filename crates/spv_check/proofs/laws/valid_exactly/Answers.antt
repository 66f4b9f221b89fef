use Rattle.spv_check.proofs.Verdicts.{valid_exactly}
use Rattle.spv_check.proofs.laws.valid_exactly.Goals as goal

pub returns : goal.returns
returns c = valid_exactly
