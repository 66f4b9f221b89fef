use Rattle.std.proofs.Common.{true, false, refl}
use Rattle.spv_block_order.proofs.Rising.{past_label, past_dark}
use Rattle.spv_block_order.proofs.rise.pass_label.Goals as goal

pub returns-then-rising : goal.returns-then-rising
returns-then-rising c =
    past_label c.args.code.now c.args.function c.args.at c.args.rising c.args.rising c.args.marks.now c.requires.op
    c.requires.of c.requires.risen (λ G is. c.requires.risen.next c.if-rising.true G is) c.if-rising.true refl

pub returns-then-is_marked : goal.returns-then-is_marked
returns-then-is_marked c =
    past_label c.args.code.now c.args.function c.args.at c.args.rising
    (record { live = true; whole = c.args.rising.whole }) c.args.marks.now c.requires.op c.requires.of
    c.requires.risen (λ G is. c.requires.risen.marked c.args.at (c.if-is_marked.ensures refl) G is) refl refl

pub returns : goal.returns
returns c =
    past_dark c.args.code.now c.args.function c.args.at c.args.rising (record { live = false; whole = false })
    c.args.marks.now c.requires.risen refl refl
