use Rattle.spv_std_types.proofs.Telling.{one_told}
use Rattle.spv_std_types.proofs.laws.one_condition.Goals as goal

pub returns : goal.returns
returns c = one_told
