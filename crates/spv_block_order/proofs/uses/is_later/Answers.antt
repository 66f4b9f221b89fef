use Rattle.spv_flow.specs.walks.inner.Code.{insts_of}
use Rattle.spv_block_order.proofs.Using.{not_there, not_later, by_local}
use Rattle.spv_block_order.proofs.uses.is_later.Goals as goal

pub returns-in_default : goal.returns-in_default
returns-in_default c = λ G is.
    not_there (insts_of c.args.code.now) c.args.id c.args.at (λ d. c.in_default.ensures.there G is d)

pub returns-then-place-at : goal.returns-then-place-at
returns-then-place-at c = λ G is.
    not_later (insts_of c.args.code.now) c.args.id c.args.at c.in-Some.place (c.in-Some.ensures.there G is)
    c.if-place-at.true

pub returns : goal.returns
returns c = λ G is.
    let at = c.in-Some.ensures.there G is in
    by_local G c.args.code.now c.args.id c.args.at c.in-Some.place c.is_local.result is at c.if-place-at.false
    (c.is_local.ensures G c.args.id is at)
