use Rattle.spv_facts.proofs.Joined.{joined}
use Rattle.spv_facts.proofs.shapes.push_maybe_repeated.Goals as goal

pub returns : goal.returns
returns c = joined _ _ _ _ _ _ c.in_ok-push_maybe_before.ensures c.push_words.ensures
