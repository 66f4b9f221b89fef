use Rattle.spv_form_evidence.proofs.lemmas.words.Sufficing as sufficing
use Rattle.spv_form_evidence.proofs.words.laws.suffices.Goals as goal

pub returns : goal.returns
returns c = λ G words rule inst word e h. sufficing.suffices G words rule inst word e h
