use Rattle.spv_type_rules.proofs.Adding.{added_tells, added_keys}
use Rattle.spv_type_rules.proofs.repeat.Seen.add.Goals as goal

pub returns-clause-added : goal.returns-clause-added
returns-clause-added c =
    added_tells c.args.key c.args.self.now.others.keys c.in_ok-added.added c.in_ok-added.ensures.added

pub returns-clause-keys : goal.returns-clause-keys
returns-clause-keys c = λ k. rw c.in_ok-added.ensures.keys (added_keys c.args.key c.args.self.now.others.keys k)
