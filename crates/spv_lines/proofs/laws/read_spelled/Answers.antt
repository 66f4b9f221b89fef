use Rattle.spv_lines.proofs.Assembled.{read_spells, read_words_once}
use Rattle.spv_lines.proofs.laws.read_spelled.Goals as goal

pub returns-clause-spelled : goal.returns-clause-spelled
returns-clause-spelled c = read_spells

pub returns-clause-once : goal.returns-clause-once
returns-clause-once c = read_words_once
