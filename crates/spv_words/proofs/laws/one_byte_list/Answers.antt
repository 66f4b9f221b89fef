use Rattle.spv_words.proofs.Standing.{one_spelling}
use Rattle.spv_words.proofs.laws.one_byte_list.Goals as goal

pub returns : goal.returns
returns c = λ o bs cs ws s t. one_spelling o bs cs ws s t
