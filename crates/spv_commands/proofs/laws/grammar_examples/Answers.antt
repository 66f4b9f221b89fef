use Rattle.spv_commands.proofs.Tasks.{grammar_written}
use Rattle.spv_commands.proofs.laws.grammar_examples.Goals as goal

pub returns-clause-writes : goal.returns-clause-writes
returns-clause-writes c = grammar_written
