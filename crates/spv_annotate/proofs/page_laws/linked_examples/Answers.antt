use Rattle.std.proofs.Common.{refl}
use Rattle.std.specs.Fmt.{digits}
use Rattle.spv_annotate.proofs.page_laws.linked_examples.Goals as goal

pub returns-clause-cut : goal.returns-clause-cut
returns-clause-cut c = refl

pub returns-clause-one : goal.returns-clause-one
unfolding digits
returns-clause-one c = refl
