use Rattle.std.proofs.Common.{◌∙◌}
use Rattle.spv_inst.proofs.Frames.{frames-pop, frames-pop_none}
use Rattle.spv_inst.proofs.pending.take_parameter.Goals as goal

pub returns-in-Some-2 : goal.returns-in-Some-2
returns-in-Some-2 c =
    let g = rw c.in-Some-2.is at c.in_ok-slot.ensures in
    c.loop-frame.invariant ∙ (frames-pop c.args.table.now _ _ c.in-Some.frame c.in-Some.ensures.items ∙ g)

pub loop-frame-preserved : goal.loop-frame-preserved
loop-frame-preserved c =
    let g = rw c.in-None.is at c.in_ok-slot.ensures in
    c.loop-frame.invariant ∙ frames-pop_none c.args.table.now _ _ _ c.in-Some.frame c.in-Some.ensures.items g
