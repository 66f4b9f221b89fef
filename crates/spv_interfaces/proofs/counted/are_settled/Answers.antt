use Rattle.std.proofs.Common.{arith}
use Rattle.spv_interfaces.proofs.Counting.{settled_all, settled_more, settled_none}
use Rattle.spv_interfaces.proofs.counted.are_settled.Goals as goal

pub is_settled-requires : goal.is_settled-requires
is_settled-requires c =
    let t = c.loop-number-test.true in
    let w = c.requires.within in
    omega (arith, t, w)

pub loop-number-init : goal.loop-number-init
loop-number-init c = settled_none c.args.minor c.args.definitions.now c.args.counts.now c.args.all c.args.first
    c.args.end c.requires

pub loop-number-preserved : goal.loop-number-preserved
loop-number-preserved c = settled_more c.args.minor c.args.definitions.now c.args.counts.now c.args.all
    c.loop-number.number (c.is_settled.ensures c.if-not-is_settled.false) c.loop-number.invariant

pub returns : goal.returns
returns c = λ t. settled_all c.args.minor c.args.definitions.now c.args.counts.now c.args.all c.args.first c.args.end
    c.loop-number.number c.requires c.loop-number-test.false c.loop-number.invariant
