use Rattle.std.proofs.Common.{refl}
use Rattle.std.specs.Fmt.{digits}
use Rattle.spv_annotate.proofs.laws.version_examples.Goals as goal

pub returns-clause-own : goal.returns-clause-own
unfolding digits
returns-clause-own c = refl
