use Rattle.spv_explain.proofs.WorkedJson.{none_of_valid}
use Rattle.spv_explain.proofs.laws.nothing_of_valid.Goals as goal

pub returns : goal.returns
returns c = none_of_valid
