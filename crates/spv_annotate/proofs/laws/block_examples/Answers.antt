use Rattle.std.proofs.Common.{refl}
use Rattle.std.specs.Fmt.{digits}
use Rattle.spv_annotate.proofs.laws.block_examples.Goals as goal

pub returns-clause-comment : goal.returns-clause-comment
unfolding digits
returns-clause-comment c = refl
