use Rattle.std.proofs.Common.{arith, ◌≤◌, ◌+◌, length}
use Rattle.std.proofs.lemmas.Grind.{common_steps}
use Rattle.spv_words.proofs.Gathered.{gave_more}
use Rattle.spv_words.proofs.reading.read_octets.Goals as goal

pub returns-in_err-make_room-clause-given : goal.returns-in_err-make_room-clause-given
returns-in_err-make_room-clause-given g c =
    let fits : length c.loop-block.bytes.items + c.in_ok-n.n ≤ 16777217 = let b = c.in_ok-n.ensures.bound in grind (arith, common_steps, b) in
    gave_more _ _ _ _ _ _ _ c.loop-block.invariant.known c.in_ok-n.ensures.bytes.0 fits

pub returns-in_err-extend_from_slice-clause-given : goal.returns-in_err-extend_from_slice-clause-given
returns-in_err-extend_from_slice-clause-given g c =
    let fits : length c.loop-block.bytes.items + c.in_ok-n.n ≤ 16777217 = let b = c.in_ok-n.ensures.bound in grind (arith, common_steps, b) in
    gave_more _ _ _ _ _ _ _ c.loop-block.invariant.known c.in_ok-n.ensures.bytes.0 fits
