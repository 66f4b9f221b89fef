use Rattle.std.proofs.Common.{◌≤◌, ◌+◌, arith, length}
use Rattle.std.proofs.lemmas.Grind.{common_steps}
use Rattle.spv_words.proofs.Turning.{turn_step}
use Rattle.spv_words.proofs.order.turn.Goals as goal

pub loop-at-preserved : goal.loop-at-preserved
loop-at-preserved c =
    let t = c.loop-at.invariant in
    let fits : c.loop-at.at + 4 ≤ length c.loop-at.bytes = omega (arith, t.whole, t.same) in
    turn_step c.args.bytes.now c.loop-at.bytes c.write_u32.new.buf _ c.loop-at.at _ c.read_u32-word.result t fits (omega arith) (λ i. let f = c.type_inv.bytes i in omega arith) (grind (arith, common_steps)) c.write_u32.ensures (grind (arith, common_steps))
