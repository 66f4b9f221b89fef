use Rattle.std.proofs.Common.{◌≡◌, ◌∙◌, [], drop, arith}
use Rattle.std.proofs.Math.ListN.{drop_of_length-le}
use Rattle.spv_layout.proofs.Tested.{rounds_end}
use Rattle.spv_layout.proofs.fitting.have_rounds.Goals as goal

pub returns : goal.returns
returns c =
    let e : drop c.loop-operand.operand-index c.args.operands.now ≡ [] = drop_of_length-le c.args.operands.now (omega arith) in
    rounds_end c.args.kinds.now c.args.forms.now c.loop-operand.at c.loop-operand.invariant.within
    ∙ (rw e at c.loop-operand.invariant.left)
