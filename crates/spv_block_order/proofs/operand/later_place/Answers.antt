use Rattle.spv_block_order.proofs.Using.{later_by}
use Rattle.spv_block_order.proofs.operand.later_place.Goals as goal

pub returns : goal.returns
returns c = λ G is.
    later_by G c.args.code.now c.args.at c.args.id c.definition.result (c.if-not-is_later.ensures G is)
    (c.definition.ensures.there G is)
