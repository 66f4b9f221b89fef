use Rattle.std.specs.Prelude.{option_map}
use Rattle.spv_command_line.proofs.Numerals.{numbers_more, numbers_stop}
use Rattle.spv_command_line.proofs.number.numbers_in.Goals as goal

pub returns-in_default-number_in : goal.returns-in_default-number_in
returns-in_default-number_in c = λ ns.
    numbers_stop c.args.text.now c.split_part.result.0.now c.in-Some.left.now (option_map (λ t. t.now) c.split_part.result.1) c.loop-rest.numbers.items ns (rw c.in-Some.is at c.loop-rest.invariant) c.split_part.ensures.parts c.in_default-number_in.ensures

pub loop-rest-preserved : goal.loop-rest-preserved
loop-rest-preserved c =
    rw c.in_ok-push.ensures.items (numbers_more c.args.text.now c.split_part.result.0.now c.in-Some.left.now (option_map (λ t. t.now) c.split_part.result.1) c.loop-rest.numbers.items c.in-Some-number_in.number
    (rw c.in-Some.is at c.loop-rest.invariant) c.split_part.ensures.parts c.in-Some-number_in.ensures)
