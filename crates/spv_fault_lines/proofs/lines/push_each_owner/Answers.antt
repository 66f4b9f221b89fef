use Rattle.std.proofs.Common.{get_or}
use Rattle.spv_module.specs.Module.{plain_insts}
use Rattle.spv_lines.proofs.Steps.{got}
use Rattle.spv_fault_lines.specs.Lines.{owner_part}
use Rattle.spv_facts.proofs.Steps.{piece_step}
use Rattle.spv_fault_lines.proofs.lines.push_each_owner.Goals as goal

pub loop-operand-preserved : goal.loop-operand-preserved
loop-operand-preserved c =
    let ks = c.args.operands.now in
    let k = c.loop-operand.operand-index in
    piece_step (owner_part c.args.about.now.table.now (plain_insts c.args.about.now.«module».now) c.args.inst) ks k
    (get_or ks k 0) _ _ _ (got ks k c.loop-operand-test.true) c.in_ok-push_owner.ensures c.loop-operand.invariant
