use Rattle.std.proofs.Common.{arith}
use Rattle.spv_pictures.proofs.Looked.{step_more, steps_end}
use Rattle.spv_pictures.proofs.marks.steps_of.Goals as goal

pub loop-at-preserved : goal.loop-at-preserved
loop-at-preserved c =
    λ a b. step_more c.args.walk.now c.loop-at.at a b _ _ (omega arith) (omega arith) (c.loop-at.invariant a b)
    (c.in_ok-insert.ensures.updates.0 (a, b))

pub returns : goal.returns
returns c = λ a b. steps_end c.args.walk.now c.loop-at.at a b _ (omega arith) (c.loop-at.invariant a b)
