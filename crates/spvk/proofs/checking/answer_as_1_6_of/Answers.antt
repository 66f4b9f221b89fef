use Rattle.spvk.specs.Answer.{unanswered}
use Rattle.spvk.proofs.checking.answer_as_1_6_of.Goals as goal

pub returns-in_default : goal.returns-in_default
returns-in_default c = rw c.alone.ensures unanswered
