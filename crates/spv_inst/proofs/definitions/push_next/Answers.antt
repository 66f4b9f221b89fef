use Rattle.spv_inst.proofs.Kept.{kept_pushed}
use Rattle.spv_inst.proofs.definitions.push_next.Goals as goal

pub returns : goal.returns
returns c = λ x. rw (c.in_ok-push.ensures.items, c.requires) (kept_pushed c.args.near.now.items c.args.definition x)
