use Rattle.spv_parser.proofs.Quick.{fast_integer, fast_number, fast_word}
use Rattle.spv_parser.proofs.Plainly.{token_behind}
use Rattle.spv_parser.proofs.fast.take_word.Goals as goal

pub returns-clause-integer : goal.returns-clause-integer
returns-clause-integer c = λ G kind e line d h.
    let cell = c.in-Some-read_front.cell in
    let k = c.in-Some-read_front.ensures in
    fast_integer G line d kind c.args.rest.now cell.rest.now cell.number _ _ e h
    (k.0, token_behind c.args.rest.now _ _ cell.rest.now c.in-Some.ensures k.1 k.2) c.in_ok-push.ensures.items

pub returns-clause-word : goal.returns-clause-word
returns-clause-word c = λ G kind e line d h.
    let cell = c.in-Some-read_front.cell in
    let k = c.in-Some-read_front.ensures in
    fast_word G line d kind c.args.rest.now cell.rest.now cell.number _ _ e h
    (k.0, token_behind c.args.rest.now _ _ cell.rest.now c.in-Some.ensures k.1 k.2) c.in_ok-push.ensures.items

pub returns-clause-number : goal.returns-clause-number
returns-clause-number c = λ G kind e line d h i.
    let cell = c.in-Some-read_front.cell in
    let k = c.in-Some-read_front.ensures in
    fast_number G line d kind c.args.rest.now cell.rest.now cell.number _ _ e h i
    (k.0, token_behind c.args.rest.now _ _ cell.rest.now c.in-Some.ensures k.1 k.2) c.in_ok-push.ensures.items
