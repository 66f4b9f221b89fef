use Rattle.spv_explain.proofs.Worked.{no_first_lines, string_lines}
use Rattle.spv_explain.proofs.laws.stream_examples.Goals as goal

pub returns-clause-lines : goal.returns-clause-lines
returns-clause-lines c = string_lines

pub returns-clause-not_first : goal.returns-clause-not_first
returns-clause-not_first c = no_first_lines
