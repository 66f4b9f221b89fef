use Rattle.spv_parser.proofs.Quick.{fast_id}
use Rattle.spv_parser.proofs.fast.take_id.Goals as goal

pub returns : goal.returns
returns c = λ G kind e line d h. fast_id G line d kind c.args.rest.now c.in-Some.cell.rest.now c.in-Some.cell.number _ _
    e h c.in-Some.ensures c.in_ok-push.ensures.items
