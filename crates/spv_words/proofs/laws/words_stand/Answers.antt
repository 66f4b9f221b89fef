use Rattle.spv_words.proofs.Standing.{words-stand, stands-turned}
use Rattle.spv_words.proofs.laws.words_stand.Goals as goal

pub returns-clause-whole : goal.returns-clause-whole
returns-clause-whole c = λ o bs os h. words-stand o bs os h

pub returns-clause-other : goal.returns-clause-other
returns-clause-other c = λ bs ws s. stands-turned bs ws s
