use Rattle.spv_type_evidence.proofs.lemmas.types.Sufficing as sufficing
use Rattle.spv_type_evidence.proofs.types.laws.suffices.Goals as goal

pub returns : goal.returns
returns c = sufficing.suffices
