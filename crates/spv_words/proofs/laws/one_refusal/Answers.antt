use Rattle.spv_words.proofs.Refusal.{module-keeps}
use Rattle.spv_words.proofs.laws.one_refusal.Goals as goal

pub returns-clause-never : goal.returns-clause-never
returns-clause-never c = λ e o bs ws m b. b.broken (module-keeps o bs ws m e)
