use Rattle.spv_block_order.proofs.Rising.{marked_one}
use Rattle.spv_block_order.proofs.rise.mark_label.Goals as goal

pub returns-then-label-marks : goal.returns-then-label-marks
returns-then-label-marks c =
    marked_one c.args.code.now c.args.at c.in-Some.label c.args.id c.args.marks.now c.requires
    (λ G is. c.in-Some.ensures.label G is) c.if-at-label.true c.if-label-marks.true
