use Rattle.std.proofs.Common.{refl}
use Rattle.std.specs.Fmt.{digits}
use Rattle.spv_grammar.proofs.laws.place_examples.Goals as goal

pub returns-clause-path : goal.returns-clause-path
unfolding digits
returns-clause-path c = refl
