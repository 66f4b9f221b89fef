use Rattle.spv_form_evidence.proofs.lemmas.extended.Sufficing as sufficing
use Rattle.spv_form_evidence.proofs.extended.laws.one_evidence.Goals as goal

pub returns : goal.returns
returns c = λ is r n e f a b. sufficing.one is r n e f a b
