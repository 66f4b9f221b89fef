use Rattle.spv_check.proofs.Verdicts.{broken_verdict, refused_verdict}
use Rattle.spv_check.proofs.stream.is_valid.Goals as goal

pub returns-in-Refused : goal.returns-in-Refused
returns-in-Refused c = (λ h. cc, λ e. absurd (refused_verdict c.args.verdict c.in-Refused.field-0 c.in-Refused.is e))

pub returns-in-Broken : goal.returns-in-Broken
returns-in-Broken c = (λ h. cc, λ e. absurd (broken_verdict c.args.verdict c.in-Broken.field-0 c.in-Broken.is e))
