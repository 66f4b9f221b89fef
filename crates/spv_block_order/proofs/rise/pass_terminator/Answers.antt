use Rattle.std.proofs.Common.{false, refl}
use Rattle.spv_flow.specs.walks.inner.Code.{insts_of}
use Rattle.spv_flow.proofs.lemmas.branches.Firsts.{holds}
use Rattle.spv_flow.specs.branches.inner.Target.{is_terminator}
use Rattle.spv_block_order.proofs.Rising.{past_end, past_branch}
use Rattle.spv_block_order.proofs.rise.pass_terminator.Goals as goal

pub returns-in_ok-mark : goal.returns-in_ok-mark
returns-in_ok-mark c =
    let code = c.args.code.now in
    let h = holds (insts_of code) c.args.at is_terminator c.requires.op in
    past_branch code c.args.function c.args.at c.args.rising (record { live = false; whole = c.args.rising.whole })
    c.args.marks.now.items c.mark.new.marks.items h.inst h.there c.requires.op c.requires.of c.requires.risen
    c.if-rising.true c.in_ok-mark.ensures refl refl

pub returns-else-rising : goal.returns-else-rising
returns-else-rising c =
    let code = c.args.code.now in
    let h = holds (insts_of code) c.args.at is_terminator c.requires.op in
    past_end code c.args.function c.args.at c.args.rising (record { live = false; whole = c.args.rising.whole })
    c.args.marks.now.items h.inst h.there c.requires.op c.requires.of c.requires.risen refl refl
