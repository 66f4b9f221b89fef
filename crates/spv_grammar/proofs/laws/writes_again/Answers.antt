use Rattle.spv_grammar.proofs.Again.{gives_again}
use Rattle.spv_grammar.proofs.laws.writes_again.Goals as goal

pub returns : goal.returns
returns c = gives_again
