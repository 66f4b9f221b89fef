use Rattle.std.proofs.Common.{refl}
use Rattle.std.specs.Fmt.{digits}
use Rattle.spv_grammar.proofs.laws.tree_examples.Goals as goal

pub returns-clause-bits : goal.returns-clause-bits
unfolding digits
returns-clause-bits c = refl
