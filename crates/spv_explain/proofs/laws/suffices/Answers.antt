use Rattle.spv_explain.proofs.Sufficing as sufficing
use Rattle.spv_explain.proofs.laws.suffices.Goals as goal

pub returns : goal.returns
returns c = sufficing.suffices
