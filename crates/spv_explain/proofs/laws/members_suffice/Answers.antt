use Rattle.spv_explain.proofs.WorkedJson.{fault_shown}
use Rattle.spv_explain.proofs.laws.members_suffice.Goals as goal

pub returns : goal.returns
returns c = fault_shown
