use Rattle.std.proofs.Common.{refl}
use Rattle.std.specs.Fmt.{digits}
use Rattle.spv_annotate.proofs.page_laws.piece_examples.Goals as goal

pub returns-clause-fault : goal.returns-clause-fault
unfolding digits
returns-clause-fault c = refl

pub returns-clause-other : goal.returns-clause-other
unfolding digits
returns-clause-other c = refl
