use Rattle.spv_inst.proofs.Frames.{taken_of_bits}
use Rattle.spv_inst.proofs.pending.take_of_frame.Goals as goal

pub returns-in-Kinds : goal.returns-in-Kinds
returns-in-Kinds c = rw c.in-Kinds.is (c.take_first.ensures c.args.table.now)

pub returns-in_ok-push-in-Bits : goal.returns-in_ok-push-in-Bits
returns-in_ok-push-in-Bits c =
    let G = c.args.table.now in
    rw c.in-Bits.is
    (taken_of_bits G _ c.args.frames.now.items c.push.new.self.items _ c.in-Bits.kind c.in-Bits.mask c.in-Bits.position
    c.in-Some.found.position c.in-Some.found.kinds.now c.in-Some.ensures.0 c.in-Some.ensures.1
    c.in_ok-push-in-Bits.ensures.items (c.take_first-in-Bits.ensures G))
