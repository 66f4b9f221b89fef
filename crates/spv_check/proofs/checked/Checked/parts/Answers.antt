use Rattle.spv_check.proofs.Checks.{parts_under}
use Rattle.spv_check.proofs.checked.Checked.parts.Goals as goal

pub returns-clause-some : goal.returns-clause-some
returns-clause-some c = let a = rw c.self.view_is at c.self.invariant.1.parts in
    (c.self.invariant.0, c.self.invariant.1.reach, a)

pub returns-clause-each : goal.returns-clause-each
returns-clause-each c = λ G reach k.
    let a = rw c.self.view_is at c.self.invariant.1.parts in
    parts_under G c.self.invariant.0 reach c.self.invariant.1.reach c.args.self.now _ _ _ _ k a
