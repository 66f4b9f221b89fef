use Rattle.std.proofs.Common.{refl}
use Rattle.std.specs.Fmt.{digits}
use Rattle.spv_annotate.proofs.page_laws.verdict_examples.Goals as goal

pub returns-clause-notice : goal.returns-clause-notice
unfolding digits
returns-clause-notice c = λ f e g. rw (e, g) refl

pub returns-clause-marked : goal.returns-clause-marked
unfolding digits
returns-clause-marked c = refl

pub returns-clause-unmarked : goal.returns-clause-unmarked
unfolding digits
returns-clause-unmarked c = refl
