use Rattle.std.proofs.Common.{◌≤◌, arith, length}
use Rattle.std.proofs.lemmas.List.{take_all}
use Rattle.spv_printer.proofs.Drafts.{plain_next}
use Rattle.spv_printer.proofs.fast_text.are_plain.Goals as goal

pub loop-octet-preserved : goal.loop-octet-preserved
loop-octet-preserved c =
    let p = c.is_plain.ensures c.if-not-is_plain.false in
    plain_next c.args.octets.now c.loop-octet.octet-index c.loop-octet-test.true c.loop-octet.invariant p.quote p.mark
    p.feed

pub returns : goal.returns
returns c = λ _.
    let h : length c.args.octets.now ≤ c.loop-octet.octet-index = omega arith in
    rw (← take_all c.loop-octet.octet-index c.args.octets.now h) c.loop-octet.invariant
