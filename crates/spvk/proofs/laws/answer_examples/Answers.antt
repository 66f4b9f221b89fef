use Rattle.spvk.specs.Answer.{unanswered}
use Rattle.spvk.specs.Grammar.{memory}
use Rattle.spvk.proofs.laws.answer_examples.Goals as goal

pub returns-clause-memory : goal.returns-clause-memory
returns-clause-memory c = λ G r bytes. unanswered

pub returns-clause-want : goal.returns-clause-want
returns-clause-want c = λ text. memory
