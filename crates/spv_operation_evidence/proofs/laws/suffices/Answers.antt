use Rattle.spv_operation_evidence.proofs.lemmas.Sufficing as sufficing
use Rattle.spv_operation_evidence.proofs.laws.suffices.Goals as goal

pub returns : goal.returns
returns c = sufficing.suffices
