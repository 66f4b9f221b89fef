use Rattle.spv_limits.proofs.Passing.{answer_no, answer_yes}
use Rattle.spv_standard.proofs.Singles.{limits_at, no_limits_at}
use Rattle.spv_standard.proofs.alone.limits_at.Goals as goal

pub returns-then-not-is_asked-clause-first : goal.returns-then-not-is_asked-clause-first
returns-then-not-is_asked-clause-first c = λ quiet.
    no_limits_at c.args.definitions.now c.args.number (quiet c.if-not-is_asked.true)

pub returns-then-branch-clause-first : goal.returns-then-branch-clause-first
returns-then-branch-clause-first c = λ quiet.
    limits_at c.args.definitions.now c.args.number
    (answer_yes c.in_ok-is_past.field-0 _ _ c.if-branch.true c.in_ok-is_past.ensures)

pub returns-clause-first : goal.returns-clause-first
returns-clause-first c = λ quiet.
    no_limits_at c.args.definitions.now c.args.number
    (answer_no c.in_ok-is_past.field-0 _ _ c.if-branch.false c.in_ok-is_past.ensures).0
