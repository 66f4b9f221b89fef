use Rattle.std.proofs.Common.{◌≡◌, ◌+◌, drop, get_or, suc, arith, drop-cons}
use Rattle.spv_command_line.proofs.Numerals.{number_ends, number_more, number_stops, not_empty}
use Rattle.spv_command_line.proofs.number.number_in.Goals as goal

pub returns-in-None : goal.returns-in-None
returns-in-None c = λ n.
    let text = c.args.text.now in
    let i = c.loop-octet.octet-index in
    let cut = drop-cons text i 0 c.loop-octet-test.true in
    number_stops text (drop (suc i) text) (get_or text i 0) c.loop-octet.number n (rw cut at c.loop-octet.invariant) c.in-None.ensures

pub loop-octet-preserved : goal.loop-octet-preserved
loop-octet-preserved c =
    let text = c.args.text.now in
    let i = c.loop-octet.octet-index in
    let cut = drop-cons text i 0 c.loop-octet-test.true in
    let one : i + 1 ≡ suc i = omega arith in
    rw one (number_more text (drop (suc i) text) (get_or text i 0) c.loop-octet.number c.in-Some.more (rw cut at c.loop-octet.invariant) c.in-Some.ensures.0 c.in-Some.ensures.1 c.in-Some.ensures.2)

pub returns : goal.returns
returns c = number_ends c.args.text.now c.loop-octet.octet-index c.loop-octet.number c.loop-octet.invariant c.loop-octet-test.false (not_empty _ c.is_empty.result c.is_empty.ensures c.if-is_empty.false)
