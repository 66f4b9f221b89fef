use Rattle.spv_form_evidence.proofs.lemmas.extended.Sufficing as sufficing
use Rattle.spv_form_evidence.proofs.extended.laws.suffices.Goals as goal

pub returns : goal.returns
returns c = λ reach is r n e on h. sufficing.suffices reach is r n e on h
