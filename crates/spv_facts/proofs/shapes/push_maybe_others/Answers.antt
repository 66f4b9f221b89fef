use Rattle.std.proofs.Common.{codes}
use Rattle.spv_facts.proofs.Joined.{pushed}
use Rattle.spv_facts.proofs.shapes.push_maybe_others.Goals as goal

pub returns : goal.returns
returns c = pushed _ _ _ _ _ (codes " or nothing, any others") c.in_ok-push_form.ensures c.push_str.ensures.bytes
