use Rattle.spv_parser.proofs.Quick.{fast_text}
use Rattle.spv_parser.proofs.fast.take_text.Goals as goal

pub returns : goal.returns
returns c = λ G kind e line d h.
    let q = c.in-Some-front_text.quotation in
    fast_text G line d kind c.args.rest.now c.in-Some.spaced.now q.text.now q.rest.now _ _ e h c.in-Some.ensures
    c.in-Some-front_text.ensures c.read_text.ensures c.in_ok-push_operand.ensures
