use Rattle.spv_form_evidence.proofs.lemmas.layout.Sufficing.{suffices}
use Rattle.spv_form_evidence.proofs.layout.laws.suffices.Goals as goal

pub returns : goal.returns
returns c = λ p G is r n e h. suffices p G is r n e h
