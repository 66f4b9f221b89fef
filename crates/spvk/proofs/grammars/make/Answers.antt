use Rattle.std.proofs.Common.{refl}
use Rattle.spvk.proofs.Reasons.{refusal, want}
use Rattle.spvk.proofs.grammars.make.Goals as goal

pub returns-in-Ok-clause-reason : goal.returns-in-Ok-clause-reason
returns-in-Ok-clause-reason c = λ h. want _ 1 refl

pub returns-clause-reason : goal.returns-clause-reason
returns-clause-reason c = λ h. rw c.status.ensures (refusal _ c.in-Err.error c.in-Err.ensures.refused)
