use Rattle.spvk.specs.GrammarReason.{memory}
use Rattle.spvk.proofs.laws.grammar_reason_examples.Goals as goal

pub returns-clause-memory : goal.returns-clause-memory
returns-clause-memory c = λ text old. memory
