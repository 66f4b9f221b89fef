use Rattle.spv_form_evidence.proofs.lemmas.capabilities.Suffices.{breaks}
use Rattle.spv_form_evidence.proofs.capabilities.laws.suffices.Goals as goal

pub returns : goal.returns
returns c = λ G is r n e i x t. breaks G is r n e i x t
