use Rattle.spv_grammar.proofs.Apart.{given_apart}
use Rattle.spv_grammar.proofs.laws.kinds_apart.Goals as goal

pub returns : goal.returns
returns c = given_apart
