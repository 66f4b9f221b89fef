use Rattle.spv_form_evidence.proofs.lemmas.words.Unique as unique
use Rattle.spv_form_evidence.proofs.words.laws.one_evidence.Goals as goal

pub returns : goal.returns
returns c = λ G words rule inst word e f a b. unique.one G words rule inst word e f a b
