use Rattle.spv_parser.proofs.Halting.{left_unused, left_going}
use Rattle.spv_parser.proofs.stops.left_over.Goals as goal

pub returns-then-is_empty : goal.returns-then-is_empty
returns-then-is_empty c =
    λ G r d n. left_unused G r d c.args.rest.now c.is_empty.result c.is_empty.ensures c.if-is_empty.true n

pub returns : goal.returns
returns c = λ G r d n. left_going G r d c.args.rest.now c.skip_to_word.result.now c.is_empty.result c.is_empty.ensures
    c.if-is_empty.false c.skip_to_word.ensures
